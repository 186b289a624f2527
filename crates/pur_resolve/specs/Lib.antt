pub mod Bases
pub mod Dots
pub mod Resolving
pub mod Private
