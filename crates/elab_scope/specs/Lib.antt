pub mod Entries
pub mod Functions
pub mod Initialised
pub mod Names
pub mod Numbers
pub mod States
pub mod Tags
