pub mod Bare
pub mod Following
pub mod Limits
pub mod First
