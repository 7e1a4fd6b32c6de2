pub mod Edits
pub mod Building
pub mod Faults
