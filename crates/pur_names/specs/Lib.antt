pub mod Elements
pub mod Attributes
pub mod Properties
pub mod Schemes
pub mod Places
