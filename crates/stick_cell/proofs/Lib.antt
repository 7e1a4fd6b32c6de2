pub mod FirstName
mod CellLoop
pub mod Composed
mod Finishing
mod Forgetting
pub mod KeptWires
pub mod KeptPaths
pub mod FoundNodes
mod SidesRead
mod SidesKept
mod LineSides
mod SidesFree
mod SidesLoop
mod Apart
mod ReadyCells
mod LineLoop
mod LineSteps
mod UseSteps
mod WireSteps
mod Judged
mod Refused
pub mod PortsSeen
pub mod GridNames
