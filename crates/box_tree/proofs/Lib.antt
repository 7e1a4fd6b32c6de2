pub mod Within
pub mod Trees
pub mod Taken
pub mod Orders
pub mod Growth
pub mod Walk
pub mod OtherTags
