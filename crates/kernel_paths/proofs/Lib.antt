pub mod Runs
pub mod Around
pub mod Becoming
