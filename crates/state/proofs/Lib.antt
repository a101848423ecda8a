-- What is proved once and cited: references and the sets of their classes.
pub mod Referring
pub mod Naming
