pub mod Fronts
pub mod Asking
pub mod Holding
