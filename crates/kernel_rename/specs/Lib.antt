pub mod Renames
