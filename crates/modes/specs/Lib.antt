-- The definitions that the contracts cite.
pub mod Modes
pub mod Elements
pub mod Requests
