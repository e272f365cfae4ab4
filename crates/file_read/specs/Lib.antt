pub mod Heads
pub mod Filling
pub mod Outcome
