pub mod Steps
pub mod Ids
pub mod Attributes
pub mod Rows
pub mod Laws
pub mod Private
