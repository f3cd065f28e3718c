pub mod Taken
pub mod TakingRows
pub mod Written
