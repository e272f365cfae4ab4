pub mod Dropping
pub mod Joining
pub mod Told
pub mod Answering
