pub mod Parts
pub mod Apart
