pub mod Told
pub mod Finding
pub mod Results
pub mod Answering
