-- The lemmas that the proofs of the functions cite.
pub mod Places
pub mod Covers
pub mod Meets
pub mod Bridge
pub mod Cleared
pub mod Pairs
pub mod Outcomes
pub mod Front
pub mod Firsts
pub mod Seated
