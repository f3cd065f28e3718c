mod Bounds
pub mod Extends
pub mod ExtendsFunctions
mod ExtendsNodes
pub mod ExtendsStatements
pub mod ExtendsTrees
mod ExtendsValues
mod Rows
