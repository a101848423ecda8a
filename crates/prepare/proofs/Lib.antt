-- Laws of the tables: lists, going up from class to parent, rows, fields, methods, kinds, sets.
pub mod Lists
pub mod Up
pub mod Making
pub mod Turns
pub mod Fields
pub mod Methods
pub mod Holding
pub mod Storing
pub mod Asking
