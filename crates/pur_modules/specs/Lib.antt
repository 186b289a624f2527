pub mod Groups
pub mod Expressions
pub mod Contents
pub mod Excluders
pub mod Wrappers
pub mod AttributeLists
