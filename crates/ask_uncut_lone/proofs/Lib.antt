pub mod Search
pub mod Listing
pub mod Sheets
pub mod Going
