pub mod Coming
pub mod Arrays
