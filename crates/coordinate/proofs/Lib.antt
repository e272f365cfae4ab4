pub mod Bytes
pub mod Within
pub mod Laws
pub mod Held
