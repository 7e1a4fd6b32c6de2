pub mod Bound
pub mod Clean
pub mod Candidates
pub mod Kept
pub mod Laws
pub mod Worked
pub mod Pruning
pub mod Chains
