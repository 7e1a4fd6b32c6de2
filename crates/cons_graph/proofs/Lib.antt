pub mod Lists
pub mod Tests
pub mod CycleTest
pub mod NamesKept
