pub mod Looks
pub mod Sight
