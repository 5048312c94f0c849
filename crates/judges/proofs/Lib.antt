pub mod Masks
pub mod Table
pub mod Own
