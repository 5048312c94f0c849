-- The seatings of the examples, the group that blocks, and how asks end.
pub mod Seated
pub mod Asked
