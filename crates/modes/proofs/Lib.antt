-- The lemmas that the proofs of the functions cite.
pub mod Turns
pub mod Shapes
pub mod Answered
pub mod OneMode
