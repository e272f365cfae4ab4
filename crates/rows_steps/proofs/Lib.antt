pub mod Rewired
pub mod Renamed
pub mod Swaps
pub mod Writing
pub mod Merging
pub mod Placed
pub mod Asking
