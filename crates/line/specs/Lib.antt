-- What a text is after an append, which value is printed, and what an input announces.
pub mod Append
pub mod Values
pub mod Announced
