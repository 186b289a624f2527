pub mod KindLaws
pub mod AmongLaws
pub mod ExcluderLaws
pub mod NameLaws
pub mod EmptyElements
pub mod AttributeLaws
