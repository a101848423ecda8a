-- What is proved about the definitions.
pub mod Listed
pub mod Hoare
pub mod Rows
pub mod Ancestors
pub mod Decoding
pub mod Operands
pub mod Certificate
pub mod Typing
pub mod Endings
pub mod Loaded
pub mod Members
pub mod Told
pub mod States
pub mod Steps
pub mod Budget
pub mod Safe
pub mod EachStep
