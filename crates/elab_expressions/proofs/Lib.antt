pub mod Callees
pub mod Converting
pub mod Fitting
pub mod Following
pub mod Ints
pub mod Lists
