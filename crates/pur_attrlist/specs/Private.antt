-- Definitions that serve private contracts and views alone: no public contract says anything by them.
pub mod Index
pub mod Places
pub mod Storage
pub mod Stored
