pub mod Gone
pub mod Three
