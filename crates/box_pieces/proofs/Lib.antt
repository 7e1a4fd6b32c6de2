pub mod Areas
pub mod BoxByBox
