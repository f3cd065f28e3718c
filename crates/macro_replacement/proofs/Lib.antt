pub mod Completions
pub mod Arguments
