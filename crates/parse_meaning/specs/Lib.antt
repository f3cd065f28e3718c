pub mod Terminals
pub mod Specifiers
pub mod Expressions
pub mod Statements
pub mod File
pub mod Spans
