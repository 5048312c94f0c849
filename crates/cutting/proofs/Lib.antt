-- The lemmas that the proofs of the functions cite.
pub mod Records
pub mod Single
pub mod Unique
