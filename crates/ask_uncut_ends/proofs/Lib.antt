pub mod Finding
pub mod Deciding
pub mod Meaning
