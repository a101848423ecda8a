-- What the contracts of calls and returns speak of.
pub mod Lent
