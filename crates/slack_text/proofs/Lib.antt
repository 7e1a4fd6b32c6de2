pub mod Adding
pub mod Cells
