pub mod Alls
pub mod JogNames
pub mod Marking
pub mod Bendable
pub mod Determined
pub mod Bents
pub mod NodeNames
pub mod Jogged
