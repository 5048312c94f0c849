-- The definitions that the contracts cite.
pub mod Told
pub mod Bench
