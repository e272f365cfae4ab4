pub mod Dropped
pub mod Both
