pub mod Fields
pub mod Rest
pub mod Skips
pub mod Stands
