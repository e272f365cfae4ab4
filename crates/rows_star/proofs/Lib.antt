pub mod Marking
pub mod Meaning
pub mod Answers
