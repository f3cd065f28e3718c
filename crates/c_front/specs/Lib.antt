pub mod Front
pub mod Served
