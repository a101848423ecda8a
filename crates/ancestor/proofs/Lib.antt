-- Laws of the ancestor test.
pub mod Climb
