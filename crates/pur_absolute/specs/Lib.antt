pub mod Absolute
pub mod Laws
pub mod Rules
pub mod Rows
pub mod Private
