mod Braced
mod Knots
