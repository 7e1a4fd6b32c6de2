pub mod Rows
pub mod Borders
pub mod Plan
pub mod Instances
pub mod GridNets
