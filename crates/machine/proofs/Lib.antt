-- What is proved once and cited.
pub mod Made
pub mod Crossed
