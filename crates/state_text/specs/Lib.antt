-- The text of a State as it is read from the arrays, and the states that the arrays tell whole.
pub mod Keeps
pub mod Texts
