pub mod Walks
pub mod Least
pub mod Falls
pub mod Settled
