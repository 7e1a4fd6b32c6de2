pub mod LinesLeft
pub mod Parts
