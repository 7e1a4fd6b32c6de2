pub mod Cif
pub mod Calls
pub mod Cutting
