pub mod Along
pub mod Lent
pub mod Asking
