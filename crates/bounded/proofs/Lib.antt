pub mod Edits
pub mod Most
pub mod Mask
pub mod Members
pub mod Retained
