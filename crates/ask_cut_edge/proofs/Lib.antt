pub mod Made
pub mod Found
pub mod Closed
pub mod ClosedAnswer
pub mod Opened
pub mod OpenAnswer
