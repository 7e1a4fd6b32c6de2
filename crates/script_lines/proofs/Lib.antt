pub mod ScriptsLeft
pub mod Said
