-- What the contract of a step speaks of.
pub mod Told
