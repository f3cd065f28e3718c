pub mod Alone
pub mod AloneStatements
pub mod TreeHeights
pub mod FileHeights
