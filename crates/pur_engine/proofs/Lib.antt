pub mod FragmentLemmas
pub mod GoodLemmas
pub mod ReadingLemmas
pub mod SpelledLemmas
pub mod TextLemmas
