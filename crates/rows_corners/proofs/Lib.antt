pub mod Rows
pub mod Lists
pub mod Edits
pub mod Moved
pub mod Arcs
pub mod Splits
pub mod Runs
