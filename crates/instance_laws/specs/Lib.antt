pub mod Planned
pub mod Rules
pub mod InstanceSystem
pub mod Conductors
pub mod Meetings
pub mod Shapes
pub mod Sticks
