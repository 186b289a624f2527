pub mod Purified
pub mod Ledger
pub mod Spelled
pub mod Purifications
pub mod Laws
pub mod Private
