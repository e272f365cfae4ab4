pub mod Heads
pub mod Kind
pub mod Laws
