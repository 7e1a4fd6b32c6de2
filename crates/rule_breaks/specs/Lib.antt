pub mod Breaks
pub mod Order
pub mod Lists
pub mod Reaches
