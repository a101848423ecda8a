-- What the line of `tell` says.
pub mod Shapes
