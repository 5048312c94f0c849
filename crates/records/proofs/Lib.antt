pub mod Rows
pub mod Tags
pub mod Orders
pub mod Checked
pub mod Known
