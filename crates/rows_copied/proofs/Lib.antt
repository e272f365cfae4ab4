pub mod Runs
pub mod Passing
pub mod Dealt
pub mod Ungluing
