pub mod Queries
pub mod Tree
pub mod Orders
pub mod Found
pub mod UnvisitedTrees
pub mod Grown
pub mod Retagged
