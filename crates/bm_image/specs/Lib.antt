pub mod Images
pub mod Parts
pub mod Reading
pub mod Spelling
