pub mod Begun
pub mod MetOwners
pub mod Placed
pub mod Swept
pub mod Turned
