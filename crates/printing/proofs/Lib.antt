pub mod Lines
pub mod Fronts
pub mod Last
pub mod Pieces
pub mod Whole
