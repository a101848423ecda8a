-- What the contracts of fields and casts speak of.
pub mod Named
pub mod Members
