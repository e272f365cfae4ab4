pub mod Signs
pub mod Decimal
pub mod Puts
