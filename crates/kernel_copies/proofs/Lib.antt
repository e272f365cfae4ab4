pub mod Coming
pub mod Answering
