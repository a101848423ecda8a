pub mod Tests
pub mod Reading
pub mod Wrapping
pub mod Checked
pub mod Unsigned
pub mod Shifts
