pub mod Readers
pub mod Said
pub mod Numbers
