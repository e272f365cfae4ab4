pub mod Turning
pub mod Running
