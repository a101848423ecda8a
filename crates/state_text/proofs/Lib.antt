-- Laws of the texts, and that they are the model's.
pub mod Joining
pub mod Reading
pub mod Sizes
pub mod Linking
pub mod Telling
pub mod Reached
