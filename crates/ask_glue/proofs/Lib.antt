pub mod Glued
pub mod Vertices
pub mod Edges
