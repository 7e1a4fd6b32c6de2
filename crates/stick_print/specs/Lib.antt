pub mod Canonical
pub mod ReadBack
pub mod Said
