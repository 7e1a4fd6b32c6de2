pub mod Plans
pub mod Designs
