pub mod Events
pub mod Objects
pub mod Runs
pub mod Worlds
