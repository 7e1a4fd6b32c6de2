pub mod Linking
pub mod Entries
pub mod Lists
pub mod Nearby
pub mod CutLists
pub mod Spreading
pub mod Grounds
pub mod Listing
