-- The definitions that the contracts cite.
pub mod Holdings
pub mod Held
