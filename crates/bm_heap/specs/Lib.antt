pub mod Heaps
pub mod View
