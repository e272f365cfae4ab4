pub mod Arcs
pub mod Places
pub mod Parts
pub mod Bridges
pub mod Corners
pub mod Sizes
pub mod Cuts
