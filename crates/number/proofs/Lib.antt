pub mod Bytes
pub mod Laws
pub mod Counted
pub mod Reading
