pub mod Forms
pub mod Keywords
pub mod Laws
pub mod Private
pub mod Properties
pub mod Styles
