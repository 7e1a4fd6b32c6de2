pub mod NetOfPlace
pub mod Determined
pub mod SameExtracted
pub mod Mapped
