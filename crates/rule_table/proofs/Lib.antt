pub mod Versions
pub mod Ranges
pub mod Sound
pub mod Margins
pub mod Widths
pub mod Complete
pub mod Shipped
