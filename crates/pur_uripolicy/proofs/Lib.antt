pub mod SetLemmas
pub mod SubdomainLemmas
pub mod UseLemmas
