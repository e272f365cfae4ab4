pub mod Cycles
pub mod Laying
