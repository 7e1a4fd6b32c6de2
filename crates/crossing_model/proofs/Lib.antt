pub mod SameCrossings
