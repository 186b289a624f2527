pub mod Laws
pub mod Nesting
pub mod Parts
pub mod Repaired
pub mod Rows
pub mod Settled
pub mod Tables
pub mod Private
