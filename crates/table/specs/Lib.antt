pub mod Message
pub mod Shape
pub mod Rows
pub mod Parts
pub mod Turns
pub mod Sets
