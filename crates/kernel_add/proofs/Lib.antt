pub mod Comes
pub mod Put
pub mod Faces
