pub mod Blanks
pub mod Words
pub mod Transformations
pub mod Shifts
pub mod Commands
pub mod Reading
pub mod Forms
