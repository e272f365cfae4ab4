pub mod Commanding
pub mod Demand
