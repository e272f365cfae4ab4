pub mod Splicing
pub mod Replaced
pub mod Building
