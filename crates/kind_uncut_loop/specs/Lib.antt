pub mod Uncutting
