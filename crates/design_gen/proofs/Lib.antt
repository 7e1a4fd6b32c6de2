pub mod Growing
pub mod Wires
