-- Laws that the proofs of the instructions cite.
pub mod Answers
pub mod Signed
pub mod Acting
pub mod Constants
pub mod Numbered
pub mod Branching
