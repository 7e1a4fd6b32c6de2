pub mod Attachments
pub mod Determined
