mod Buried
mod Counts
mod Covered
mod Facing
mod Firsts
pub mod Grains
mod Improper
mod InOrder
mod Leasts
mod Meetings
mod MetEntries
mod Overlapped
mod PartnerLists
mod Settled
mod Settling
mod SpansPast
pub mod EntryBoxes
pub mod EntryLists
mod Walks
