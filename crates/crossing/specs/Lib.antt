-- What the contract of a step that changes the frame speaks of.
pub mod Crossing
