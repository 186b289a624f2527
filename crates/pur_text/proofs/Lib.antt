pub mod CleaningLemmas
pub mod CutLemmas
pub mod FeedingLemmas
pub mod HostLaws
pub mod HostLemmas
pub mod RunLemmas
pub mod TrimmingLemmas
