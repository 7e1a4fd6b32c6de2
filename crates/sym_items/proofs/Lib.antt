pub mod Gaps
pub mod Together
