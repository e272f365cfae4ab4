pub mod Tying
pub mod Rows
