pub mod Queues
pub mod Links
pub mod Raised
pub mod Kept
