pub mod Found
pub mod Named
pub mod Numbers
pub mod Parts
pub mod PlainLines
pub mod Refusals
pub mod Steps
pub mod Texts
