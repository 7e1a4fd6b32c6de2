pub mod Numbers
pub mod Unknown
pub mod Technology
