pub mod EscapedLemmas
pub mod TagLemmas
pub mod ValueLemmas
pub mod WrittenLemmas
