pub mod AttributeSteps
pub mod Lengths
pub mod Misses
pub mod SpecSteps
pub mod Words
