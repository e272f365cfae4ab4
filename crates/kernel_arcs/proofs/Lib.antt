pub mod Lists
pub mod Sides
pub mod Joins
pub mod Pairs
