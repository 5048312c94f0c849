-- The lemmas that the proofs of the functions cite.
pub mod Pass
pub mod Alone
pub mod Answered
