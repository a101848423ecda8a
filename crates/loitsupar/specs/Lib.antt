-- What the public functions answer.
pub mod Public
