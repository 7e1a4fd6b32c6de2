pub mod Netting
pub mod Search
