pub mod Items
pub mod Bit
pub mod Numbers
