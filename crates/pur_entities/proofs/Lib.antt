pub mod BodyLemmas
pub mod NumeralLemmas
pub mod ReadingLemmas
pub mod ReferenceLemmas
pub mod TableLemmas
