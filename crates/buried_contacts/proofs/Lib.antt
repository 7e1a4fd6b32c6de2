pub mod Owners
pub mod Pads
pub mod Shares
pub mod Contacts
