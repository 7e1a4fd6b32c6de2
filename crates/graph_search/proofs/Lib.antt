pub mod Chains
pub mod Marks
pub mod Spreading
pub mod Numbering
pub mod Determined
pub mod Neighbours
