pub mod Formats
pub mod Padded
pub mod Radix
pub mod Rows
