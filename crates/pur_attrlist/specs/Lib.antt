pub mod Texts
pub mod Attributes
pub mod Pairs
pub mod Styles
pub mod Private
