pub mod Held
pub mod Replies
pub mod Sums
pub mod Finds
pub mod Grown
pub mod Refusals
