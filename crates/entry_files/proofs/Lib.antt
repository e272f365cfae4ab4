pub mod Counts
pub mod Opening
pub mod Checking
