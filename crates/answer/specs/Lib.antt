pub mod Sizes
pub mod Answers
pub mod Late
pub mod Questions
