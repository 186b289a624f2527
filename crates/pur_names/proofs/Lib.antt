pub mod Variants
pub mod Found
pub mod Placed
pub mod ElementLaws
pub mod AttrLaws
pub mod StylePropLaws
pub mod SchemeNameLaws
