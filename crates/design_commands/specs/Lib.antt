pub mod Compact
pub mod Nets
pub mod Slacks
