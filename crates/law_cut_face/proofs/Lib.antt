pub mod Edits
pub mod Rounds
