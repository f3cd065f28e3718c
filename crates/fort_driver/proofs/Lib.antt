pub mod Agreement
pub mod Answering
pub mod Executing
pub mod Kept
pub mod Promised
pub mod Starting
