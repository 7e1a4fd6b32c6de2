pub mod Contacts
pub mod Facing
pub mod Rows
