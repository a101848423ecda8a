-- What is proved beside the functions.
pub mod Passes
pub mod Loops
