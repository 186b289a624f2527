pub mod Faults
pub mod Taken
pub mod Texts
pub mod Shelves
pub mod Sinks
pub mod Private
