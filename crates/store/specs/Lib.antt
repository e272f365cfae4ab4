pub mod Sheet
pub mod View
pub mod Places
pub mod Sizes
pub mod Index
pub mod Edits
pub mod Pools
