pub mod Dead
pub mod Gone
pub mod Three
pub mod ThreeGone
