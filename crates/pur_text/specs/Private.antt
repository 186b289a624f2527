-- Definitions that serve private contracts and views alone: no public contract says anything by them.
pub mod Feeding
pub mod Runs
