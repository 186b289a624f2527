pub mod Strict
pub mod Removal
pub mod Keeping
