pub mod Named
pub mod Suffixes
pub mod Nests
