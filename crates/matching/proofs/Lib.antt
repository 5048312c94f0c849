-- The lemmas that the proofs of the functions cite.
pub mod Count
pub mod Hall
pub mod Bits
pub mod Steps
pub mod Groups
pub mod Moves
pub mod Turns
