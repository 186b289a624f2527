pub mod Languages
pub mod Deciding
pub mod Images
pub mod Laws
pub mod Private
