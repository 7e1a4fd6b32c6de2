pub mod Masks
pub mod Pictures
pub mod RowCalls
pub mod Worked
