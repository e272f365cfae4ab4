pub mod Unglues
pub mod Places
