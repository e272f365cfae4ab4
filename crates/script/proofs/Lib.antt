pub mod Steps
pub mod Moved
pub mod Cycles
pub mod Loads
