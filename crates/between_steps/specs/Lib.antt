-- What the contracts of a run speak of.
pub mod Running
