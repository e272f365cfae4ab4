pub mod Copies
pub mod Edge
pub mod Order
pub mod Vertex
pub mod Found
pub mod Parts
