-- What is proved once and cited.
pub mod Laying
pub mod Places
pub mod Written
