pub mod Masters
pub mod Names
pub mod Joined
pub mod Among
pub mod Variables
pub mod Spaces
pub mod Meeting
pub mod Layouts
