pub mod Copied
pub mod Moving
pub mod Taken
pub mod Handed
pub mod Called
pub mod Made
pub mod Acting
