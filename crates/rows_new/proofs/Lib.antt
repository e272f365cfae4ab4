pub mod RunLists
pub mod Bends
pub mod Appended
pub mod Rooms
pub mod CopyLists
pub mod Copied
