-- What is proved once and cited.
pub mod Forms
pub mod Unknown
pub mod Promised
pub mod Moves
pub mod Rest
