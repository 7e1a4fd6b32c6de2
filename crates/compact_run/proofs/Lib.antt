pub mod Endings
pub mod PassLists
pub mod Coming
mod OneOutput
mod OneAnswer
mod SplitAlike
mod JogLaws
mod NetLaws
mod BreakLaws
mod EditLaws
