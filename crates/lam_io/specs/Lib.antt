pub mod Io
pub mod Fetch
pub mod Planned
pub mod ShelfInMemory
pub mod SinkInMemory
pub mod Written
pub mod OverSystem
