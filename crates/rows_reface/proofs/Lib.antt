pub mod Refacing
