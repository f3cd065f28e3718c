pub mod Climbing
pub mod Groups
pub mod Knots
pub mod Lists
pub mod Parts
