pub mod Capped
pub mod Depths
pub mod Entries
pub mod Laws
pub mod Layouts
pub mod Library
pub mod Types
