-- What the contracts of a step within its frame speak of.
pub mod Tries
