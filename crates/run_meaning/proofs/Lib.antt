pub mod Follows
pub mod Moved
