pub mod Ended
pub mod Meets
pub mod Printed
mod Tables
