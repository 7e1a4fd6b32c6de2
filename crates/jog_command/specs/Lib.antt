pub mod Jogs
