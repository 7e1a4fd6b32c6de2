pub mod Limits
pub mod Status
pub mod Refusal
pub mod Refusals
pub mod Fetches
pub mod StepLists
pub mod Readers
pub mod Outputs
