-- What is proved once and cited.
pub mod Telling
