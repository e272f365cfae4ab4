pub mod Testing
pub mod Ranges
pub mod Parts
pub mod Visits
pub mod Cells
pub mod Whole
