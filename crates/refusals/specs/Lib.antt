pub mod Number
pub mod Checks
