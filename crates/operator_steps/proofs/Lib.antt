-- Laws that the proofs cite.
pub mod Opcodes
pub mod Second
