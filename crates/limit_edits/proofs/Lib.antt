pub mod Lines
pub mod Designs
pub mod Limitless
pub mod Renumbered
pub mod Judged
pub mod Alone
