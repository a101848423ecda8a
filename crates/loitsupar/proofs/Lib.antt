-- What is proved once and cited.
pub mod Answered
pub mod Bounds
pub mod Numbers
pub mod Sizes
pub mod InArrays
pub mod Safe
