pub mod BoxPieces
pub mod BoxChannels
pub mod BoxRules
pub mod ShapeWidths
pub mod ShapeCuts
pub mod SpacingOwners
pub mod SpacingRules
pub mod BoxPlain
