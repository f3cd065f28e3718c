pub mod Agreeing
pub mod Compiled
pub mod Forms
pub mod Fort
pub mod Preparing
