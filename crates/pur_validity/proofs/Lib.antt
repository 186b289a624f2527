pub mod AttributeLemmas
pub mod DecidingLemmas
pub mod ReadingLemmas
