pub mod FailureCounts
pub mod KnownBytes
