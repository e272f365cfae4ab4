pub mod Lists
pub mod Encode
pub mod Ceilings
pub mod Stands
pub mod Grow
pub mod Rows
pub mod Pools
