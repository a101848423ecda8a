-- What is proved once and cited.
pub mod Naming
pub mod Acting
pub mod Casting
pub mod Started
pub mod Reaching
