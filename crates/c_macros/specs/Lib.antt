pub mod States
pub mod Doing
