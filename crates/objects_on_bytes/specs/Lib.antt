pub mod Calls
pub mod Relation
pub mod Rows
