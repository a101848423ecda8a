-- What the contracts of the run speak of.
pub mod Answers
pub mod Playing
