pub mod Ways
pub mod Merging
