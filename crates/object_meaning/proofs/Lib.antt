mod Bounds
mod Examples
pub mod Kept
pub mod Puts
pub mod Stores
pub mod Tested
pub mod Validity
