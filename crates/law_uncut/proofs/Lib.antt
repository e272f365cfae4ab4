pub mod Passing
pub mod Held
