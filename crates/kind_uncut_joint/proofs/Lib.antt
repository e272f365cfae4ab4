pub mod Merging
pub mod Bends
pub mod Joining
pub mod Answering
