-- What the array of parents holds.
pub mod Parents
