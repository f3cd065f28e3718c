pub mod Openings
pub mod Operations
