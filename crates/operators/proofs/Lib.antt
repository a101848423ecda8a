-- What is proved once and cited.
pub mod ByKind
pub mod Faults
pub mod Operated
