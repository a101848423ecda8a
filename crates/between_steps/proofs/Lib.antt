-- What is proved once and cited.
pub mod Order
pub mod Going
