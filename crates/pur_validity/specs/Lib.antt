pub mod Attributes
pub mod Validity
pub mod Goodness
pub mod Deciding
pub mod Rows
pub mod FormRows
pub mod AttributeRows
pub mod Laws
