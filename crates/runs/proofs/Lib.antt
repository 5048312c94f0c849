-- The lemmas that proofs cite, here and in the crates above.
pub mod After
pub mod Fewer
pub mod Turns
pub mod One
pub mod Runs
pub mod Words
