-- Definitions that serve private contracts and lemmas alone: no public contract says anything by them.
pub mod Cutting
pub mod Growing
pub mod Linking
pub mod Remaining
pub mod Standing
