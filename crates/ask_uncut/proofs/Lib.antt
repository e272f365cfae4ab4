pub mod Deciding
pub mod Cases
pub mod Finding
