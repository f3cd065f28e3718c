pub mod Values
pub mod Trees
pub mod Conditions
pub mod Machine
pub mod Numbers
pub mod Reading
