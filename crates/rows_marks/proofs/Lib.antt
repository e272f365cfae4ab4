pub mod Marking
pub mod Faces
