pub mod Cells
pub mod Spelling
pub mod Filing
pub mod Doubles
pub mod Round
