mod Gathered
mod InTurn
