-- What the answers of the code mean, in the words of the model.
pub mod Lengths
pub mod Operand
pub mod Insn
