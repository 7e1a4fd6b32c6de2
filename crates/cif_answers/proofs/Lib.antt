pub mod Determined
mod InRange
mod OneList
mod SameBoxes
mod Verdicts
