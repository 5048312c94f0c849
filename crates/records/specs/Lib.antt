pub mod Tag
pub mod Layout
pub mod Order
pub mod Stages
pub mod Reads
pub mod Messages
