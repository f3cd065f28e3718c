pub mod Readable
pub mod Stored
pub mod Written
