-- The definitions that the contracts cite.
pub mod Keyed
pub mod Merge
