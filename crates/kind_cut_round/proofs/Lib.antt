pub mod Cutting
pub mod Asking
