pub mod Faults
pub mod Pool
pub mod Kinds
pub mod Effects
