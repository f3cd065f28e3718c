pub mod Cursor
pub mod Endings
pub mod Gives
pub mod Names
pub mod Rooms
pub mod Words
