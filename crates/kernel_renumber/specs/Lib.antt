pub mod Renumbers
