pub mod Bounded
pub mod Answers
pub mod Told
