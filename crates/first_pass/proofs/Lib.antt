pub mod Cells
pub mod Masters
pub mod Equals
pub mod Shows
pub mod SamePasses
