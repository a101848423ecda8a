-- Laws of cases, of the parts of a line, and of the state that a run ends with.
pub mod Cases
pub mod Made
pub mod Outcomes
pub mod Lines
