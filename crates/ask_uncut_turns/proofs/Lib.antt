pub mod Turning
pub mod Meaning
