pub mod Canonical
pub mod Comments
pub mod Laws
pub mod Private
pub mod Selectors
pub mod Sheets
pub mod Statements
pub mod Styles
