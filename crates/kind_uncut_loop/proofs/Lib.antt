pub mod Plans
pub mod Uncutting
