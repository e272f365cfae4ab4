pub mod Loads
pub mod Bare
