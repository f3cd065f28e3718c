pub mod Memory
pub mod OnBytes
pub mod OnStreams
pub mod Prints
pub mod Properties
pub mod Rows
pub mod Scan
pub mod Table
