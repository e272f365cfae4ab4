pub mod Refaced
pub mod Left
