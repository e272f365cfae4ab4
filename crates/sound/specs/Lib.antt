pub mod Soundness
pub mod Visits
pub mod Rows
pub mod Looks
