pub mod Refusals
pub mod CellBuilder
pub mod Resolving
pub mod Ready
pub mod GridNames
