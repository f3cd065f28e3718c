pub mod Operations
pub mod Machine
pub mod After
pub mod Weights
pub mod Laws
