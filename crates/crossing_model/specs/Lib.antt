pub mod Boxes
pub mod Crossings
