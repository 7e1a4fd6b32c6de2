pub mod Words
pub mod Loop
pub mod Slices
