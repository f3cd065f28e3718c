mod Ends
mod Keeps
mod StatementTrees
mod Steady
mod Trees
mod Weights
