-- What the contracts for a host speak of.
pub mod Hosting
