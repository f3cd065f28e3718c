pub mod Tokens
pub mod Bytes
pub mod Puncts
pub mod Numbers
pub mod Literals
pub mod Pieces
pub mod Spelling
