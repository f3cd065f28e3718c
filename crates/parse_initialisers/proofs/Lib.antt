pub mod ReaderAnswers
pub mod InitDeclarators
mod Lists
mod Attributes
mod Locals
mod Knots
