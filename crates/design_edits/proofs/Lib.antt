pub mod Copies
pub mod Laid
pub mod Splits
