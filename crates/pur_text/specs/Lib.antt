pub mod Characters
pub mod Cleaning
pub mod Escapes
pub mod Feeding
pub mod Hosts
pub mod Texts
pub mod Trimming
pub mod Private
