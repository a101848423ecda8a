-- What is proved once and cited.
pub mod Written
