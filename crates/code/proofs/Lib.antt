-- What is proved once and cited: tables, bytes, parts, forms, targets, decoding.
pub mod Table
pub mod Parts
pub mod Bytes
pub mod Forms
pub mod Targets
pub mod Decoding
pub mod Onward
pub mod Sizes
pub mod Reading
pub mod There
