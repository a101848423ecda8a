-- What is proved beside the functions.
pub mod Whole
pub mod Deep
pub mod Telling
