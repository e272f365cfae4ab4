pub mod Commands
pub mod Demands
