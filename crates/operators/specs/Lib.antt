-- What the contracts of the operators speak of.
pub mod Gives
