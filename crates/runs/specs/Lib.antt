-- The definitions that the contracts cite.
pub mod History
pub mod Law
pub mod Words
