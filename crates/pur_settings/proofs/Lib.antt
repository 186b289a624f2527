pub mod SetLemmas
pub mod ItemLemmas
pub mod ReadingLemmas
pub mod WalkLemmas
pub mod OffenceLemmas
