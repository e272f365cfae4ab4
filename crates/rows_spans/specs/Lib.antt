pub mod Runs
pub mod Building
