pub mod Turning
pub mod Last
pub mod Positions
pub mod Parts
