pub mod Stopping
pub mod OnePlan
pub mod OneMaster
pub mod OneLayout
pub mod Layouts
pub mod Shapes
pub mod Scripted
