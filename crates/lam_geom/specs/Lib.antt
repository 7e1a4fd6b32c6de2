pub mod Places
pub mod Gaps
