pub mod Shorter
pub mod Progress
