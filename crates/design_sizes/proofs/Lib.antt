pub mod Tokens
pub mod Lines
pub mod Few
pub mod Short
pub mod Long
pub mod Counted
pub mod InText
pub mod Numbered
