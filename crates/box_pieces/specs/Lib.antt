pub mod Places
pub mod Areas
pub mod Pieces
pub mod Placing
