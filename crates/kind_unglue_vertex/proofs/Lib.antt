pub mod Ended
pub mod Linked
pub mod Unglued
