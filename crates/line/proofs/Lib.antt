-- What is proved once and cited: appends, the spelling of numbers, inputs.
pub mod Appending
pub mod Spelling
pub mod Inputs
pub mod Lines
