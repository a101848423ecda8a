-- What the arrays of a loaded module hold.
pub mod Holds
