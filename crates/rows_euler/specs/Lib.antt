pub mod Shares
pub mod Calls
