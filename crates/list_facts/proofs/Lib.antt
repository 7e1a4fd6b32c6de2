pub mod Elements
pub mod Pieces
pub mod Some
