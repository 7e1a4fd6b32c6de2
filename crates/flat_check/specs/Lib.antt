pub mod Partners
pub mod Clear
pub mod FlatLayouts
pub mod Trees
pub mod Ranges
