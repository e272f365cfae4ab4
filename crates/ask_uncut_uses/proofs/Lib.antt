pub mod Using
pub mod Meaning
