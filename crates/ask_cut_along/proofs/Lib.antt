pub mod Corners
pub mod Passing
