-- What is proved beside the functions.
pub mod Bytes
pub mod Operators
pub mod Showing
pub mod Replies
pub mod Doing
pub mod Walks
