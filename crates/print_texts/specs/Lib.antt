pub mod Measures
pub mod Numbers
pub mod Paddings
pub mod Parts
pub mod Printing
pub mod Stretches
