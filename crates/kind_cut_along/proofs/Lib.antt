pub mod Opening
pub mod Chords
pub mod Ends
pub mod Cutting
