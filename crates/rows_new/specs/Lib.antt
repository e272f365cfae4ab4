pub mod Appends
pub mod Runs
pub mod Copies
pub mod Requirements
