pub mod OneLaidOut
pub mod Jogging
pub mod OneJogs
