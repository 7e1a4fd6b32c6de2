pub mod KeptFaults
pub mod KeptNumbers
pub mod Families
