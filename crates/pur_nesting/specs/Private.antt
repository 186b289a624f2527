-- Definitions that serve private contracts and lemmas alone: no public contract says anything by them.
pub mod Grouping
pub mod Keeping
pub mod Order
pub mod Handing
