-- The definitions that the contracts cite.
pub mod Judged
pub mod Seated
pub mod Asked
pub mod Examples
