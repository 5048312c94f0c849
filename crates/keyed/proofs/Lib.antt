-- The lemmas that proofs cite, here and in the crates above.
pub mod Turns
pub mod Lookups
pub mod Merged
pub mod Views
