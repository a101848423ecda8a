-- What the contract of the loop speaks of.
pub mod Ending
