pub mod Slid
pub mod Stretches
