pub mod Arrays
pub mod Replies
pub mod Growing
pub mod Sheets
