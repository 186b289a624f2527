pub mod LetterLemmas
pub mod RunLemmas
pub mod CuttingLemmas
pub mod ExpressionLemmas
pub mod MatchingLemmas
pub mod TableLemmas
pub mod WordLemmas
pub mod StandingLemmas
pub mod SameLemmas
mod KindLemmas
