pub mod Values
pub mod Sides
pub mod Boxes
pub mod Standing
pub mod Layouts
pub mod Transposed
pub mod Extents
