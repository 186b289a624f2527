pub mod TextLaws
pub mod AttributeLaws
pub mod StorageLaws
pub mod IndexLaws
pub mod StyleLaws
pub mod DistinctLaws
