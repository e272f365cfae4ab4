pub mod Doors
pub mod Demand
