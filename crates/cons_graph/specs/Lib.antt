pub mod Constraints
pub mod Solutions
pub mod Walks
pub mod EdgeNumbers
pub mod SimpleWalks
pub mod Lines
pub mod Names
