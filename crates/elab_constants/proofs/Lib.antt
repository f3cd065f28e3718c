mod Nodes
mod Variants
