-- Definitions that serve private contracts alone: no public contract says anything by them.
pub mod Answering
pub mod Ends
