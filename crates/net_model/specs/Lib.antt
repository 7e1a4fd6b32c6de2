pub mod Netlists
pub mod Extraction
pub mod Devices
pub mod Faults
pub mod Laws
