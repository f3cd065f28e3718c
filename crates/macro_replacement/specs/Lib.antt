pub mod Replacing
pub mod Turning
