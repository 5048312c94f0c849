-- The definitions that the contracts cite.
pub mod Board
pub mod Masks
pub mod Steps
pub mod Calls
pub mod Verdicts
pub mod Seats
