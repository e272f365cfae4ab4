pub mod Passing
pub mod Walking
