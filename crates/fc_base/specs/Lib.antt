pub mod Answers
pub mod MemoryStore
pub mod MemoryStreams
pub mod Names
pub mod Outside
pub mod Widths
