-- The lemmas that proofs cite, here and in the crates above.
pub mod Carries
pub mod Ending
pub mod Settles
pub mod Seats
pub mod Asks
