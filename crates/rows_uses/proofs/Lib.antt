pub mod Runs
pub mod Dealing
