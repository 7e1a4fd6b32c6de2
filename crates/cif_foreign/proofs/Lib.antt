pub mod Placing
pub mod Flat
pub mod Walking
pub mod Staying
pub mod Filling
pub mod Alone
