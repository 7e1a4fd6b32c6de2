pub mod FirstLine
pub mod Written
pub mod Shapes
pub mod Failing
