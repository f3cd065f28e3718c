pub mod Answers
pub mod Forming
pub mod Keeps
pub mod Nests
pub mod Shapes
pub mod Specifiers
pub mod Stands
pub mod Words
