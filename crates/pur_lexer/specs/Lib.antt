pub mod Constructs
pub mod Lexing
pub mod Places
pub mod Tags
pub mod Written
pub mod Private
