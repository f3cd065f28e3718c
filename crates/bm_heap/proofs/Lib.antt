pub mod Blocks
pub mod Edits
pub mod Fitting
pub mod Kept
