-- Definitions that serve private contracts and lemmas alone: no public contract says anything by them.
pub mod Along
pub mod Parts
