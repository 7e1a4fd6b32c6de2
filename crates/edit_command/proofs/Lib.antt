pub mod LeastLayouts
pub mod Editing
pub mod OneEdits
