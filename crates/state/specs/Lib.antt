-- The machine in arrays: how a state of the model is seen in them, and a step on them.
pub mod View
pub mod Work
pub mod Order
pub mod Layout
pub mod Meets
pub mod Steps
