pub mod Numbered
pub mod Faults
pub mod Small
pub mod Tables
pub mod BorderSides
pub mod Scan
pub mod Planned
pub mod Building
