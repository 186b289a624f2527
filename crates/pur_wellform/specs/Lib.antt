pub mod Search
pub mod Closing
pub mod Standing
pub mod Laws
pub mod Invariants
pub mod Rows
pub mod Progress
pub mod Private
