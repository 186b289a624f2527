-- Definitions that serve private contracts and views alone: no public contract says anything by them.
pub mod Items
pub mod Sets
pub mod Texts
pub mod Walk
