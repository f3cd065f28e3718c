pub mod Bounds
pub mod Cursor
pub mod Keeping
pub mod Parts
