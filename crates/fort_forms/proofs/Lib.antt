pub mod Sameness
pub mod Reading
