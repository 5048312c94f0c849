-- The definitions that the contracts cite.
pub mod Lists
pub mod Carrying
pub mod Answers
pub mod Scratch
pub mod Filling
pub mod Settling
pub mod Searching
pub mod Seats
