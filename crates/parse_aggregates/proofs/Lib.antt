mod Knots
mod Items
