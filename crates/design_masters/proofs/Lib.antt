pub mod Counting
pub mod Weights
mod Chosen
pub mod Planned
mod Standing
pub mod FewParts
pub mod Determined
