pub mod Entities
pub mod References
pub mod Private
