-- The definitions that the contracts cite.
pub mod Calls
pub mod Rules
pub mod Steps
