pub mod Indexed
pub mod LastNumbers
pub mod Lookups
pub mod NamesOnce
pub mod Positions
pub mod Said
