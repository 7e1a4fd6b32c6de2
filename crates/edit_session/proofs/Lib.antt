pub mod Queue
pub mod Linked
pub mod Rises
pub mod Starts
pub mod Sizes
pub mod Kept
pub mod Spokes
