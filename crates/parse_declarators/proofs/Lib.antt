mod Lengths
mod Suffixes
mod Openings
mod Knots
mod Items
