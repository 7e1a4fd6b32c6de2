pub mod Extent
pub mod Start
pub mod Near
pub mod Nearby
pub mod Clash
pub mod Ranges
pub mod Laws
pub mod Worked
