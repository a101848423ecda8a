pub mod Changing
pub mod Tidied
pub mod Laying
pub mod Admitting
pub mod Started
pub mod Signing
