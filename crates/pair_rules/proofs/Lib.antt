pub mod EitherOrder
pub mod BoundItems
pub mod Pieces
pub mod Staying
pub mod CleanPairs
pub mod FacingItems
mod WorkedPairs
pub mod Spacings
pub mod PairLists
pub mod Pruning
pub mod KeptPairs
pub mod Chains
