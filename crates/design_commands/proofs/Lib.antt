pub mod OneSlack
pub mod OneNets
pub mod Symbols
pub mod AxisSlack
