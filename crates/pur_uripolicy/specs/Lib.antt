pub mod Admissible
pub mod Asking
pub mod HostRules
pub mod Laws
pub mod SchemeRules
