pub mod Questions
pub mod Plans
