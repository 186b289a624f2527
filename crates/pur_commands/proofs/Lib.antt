pub mod StreamLemmas
pub mod WordLemmas
pub mod SampleLemmas
