pub mod Checks
pub mod Stored
