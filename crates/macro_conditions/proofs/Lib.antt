pub mod Levels
pub mod Completeness
pub mod Soundness
pub mod Decisions
pub mod Steps
