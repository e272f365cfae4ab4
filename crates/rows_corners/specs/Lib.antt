pub mod Faces
pub mod Arcs
