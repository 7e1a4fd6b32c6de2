pub mod Answers
pub mod OneAnswer
pub mod Checked
pub mod BreakLaws
pub mod NetLaws
pub mod Splits
pub mod JogLaws
pub mod EditLaws
