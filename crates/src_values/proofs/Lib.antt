mod Bases
mod Copying
mod Exchanges
mod Filling
mod Marked
mod NextCells
mod Numbered
mod Numbers
mod Paging
mod Pointers
mod Putting
pub mod Rooms
mod Spots
mod Storing
mod Values
