pub mod Ends
pub mod Lone
pub mod Lent
