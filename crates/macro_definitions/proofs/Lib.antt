pub mod Tables
pub mod Pairs
pub mod Parameters
pub mod Searches
