pub mod Calls
pub mod Machines
pub mod Opening
pub mod Performing
pub mod Stack
pub mod State
pub mod Straight
pub mod View
