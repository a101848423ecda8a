-- What is proved beside the functions.
pub mod Rows
pub mod Grid
pub mod Ladder
pub mod Classes
pub mod Fields
pub mod Methods
pub mod MethodRecord
pub mod Later
pub mod Open
pub mod Search
pub mod Rules
pub mod Climb
pub mod Bodies
pub mod Reading
pub mod Ends
