pub mod Ways
pub mod Merging
pub mod Calls
