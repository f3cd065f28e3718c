pub mod Operands
pub mod Steps
