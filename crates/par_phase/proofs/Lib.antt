mod Cuts
pub mod Answers
pub mod InRanges
pub mod Numbers
