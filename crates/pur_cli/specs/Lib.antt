pub mod Verdicts
pub mod Samples
pub mod Sheets
pub mod Answers
pub mod Laws
pub mod Private
