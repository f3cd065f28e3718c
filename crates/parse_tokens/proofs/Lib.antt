pub mod Binds
pub mod Found
pub mod Names
pub mod Turns
