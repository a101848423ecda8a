-- What the contracts of the integer operators speak of.
pub mod Cells
pub mod Answers
pub mod Parts
