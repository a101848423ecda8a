pub mod Found
pub mod Visits
pub mod Notes
