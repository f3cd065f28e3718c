pub mod LeftOperands
pub mod Operations
