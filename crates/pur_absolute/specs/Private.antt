-- Definitions that serve private contracts alone: no public contract says anything by them.
pub mod Left
pub mod Parts
