pub mod Cutting
pub mod Escaping
pub mod Reading
pub mod Tags
pub mod Judging
