pub mod Kept
pub mod Sliding
pub mod Runs
pub mod Steps
