pub mod Lanes
pub mod Characters
pub mod Compares
pub mod Shapes
