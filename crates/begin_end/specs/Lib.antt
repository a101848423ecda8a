pub mod Admission
pub mod Beginning
pub mod Ending
