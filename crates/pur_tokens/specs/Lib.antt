pub mod Tokens
pub mod Joining
pub mod Shown
pub mod Characters
pub mod Distinct
pub mod Pictures
