pub mod Along
pub mod Parts
