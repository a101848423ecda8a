-- A case as bytes and its line; and the parts of the line as they are said one after the other.
pub mod Case
pub mod Texts
pub mod Places
