-- What is proved beside the functions.
pub mod Alike
pub mod Arrivals
pub mod Branches
pub mod Visiting
