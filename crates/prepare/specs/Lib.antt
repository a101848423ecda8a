-- What the contracts of the tables speak of.
pub mod Rows
pub mod Told
pub mod Kinds
pub mod Sets
