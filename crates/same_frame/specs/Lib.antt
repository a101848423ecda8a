-- What the contract of a stay speaks of.
pub mod Stays
