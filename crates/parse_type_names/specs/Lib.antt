pub mod Abstracts
pub mod Nests
