pub mod Least
pub mod Tables
pub mod Judged
