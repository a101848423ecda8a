-- What is proved once and cited.
pub mod Values
pub mod Beginning
pub mod Telling
pub mod Answering
