pub mod Kinds
pub mod Rules
pub mod Tests
pub mod Laws
