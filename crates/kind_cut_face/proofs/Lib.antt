pub mod Cuts
pub mod Lone
