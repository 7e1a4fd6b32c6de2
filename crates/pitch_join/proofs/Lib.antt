pub mod Lists
pub mod Bases
pub mod Wires
pub mod NamesCounted
pub mod Planned
pub mod Shape
pub mod Listed
pub mod Solving
