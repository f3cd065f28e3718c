pub mod Accepted
pub mod Judged
pub mod Placed
pub mod Spelled
