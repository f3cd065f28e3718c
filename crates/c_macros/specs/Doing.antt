-- To what a directive or a text comes. No public contract names this.
use Rattle.std.specs.Prelude.{◌≡◌, ℕ, List, ◌++◌, Result, Ok, Err}
use Rattle.fc_base.specs.declared.Fault.{Fault}
use Rattle.fc_base.specs.declared.Fault.TheVariants.{Refused, NoMemory}
use Rattle.c_tokens.specs.declared.Token.{Token}
use Rattle.macro_meaning.specs.Moves.{State, refuses, goes, Move}
use Rattle.macro_meaning.specs.Expansion.{Comes}

-- the tokens that a function gave stand behind those from before, and the move in the state before comes to the state afterwards
abbrev pub DoesAs : Result ℕ Fault → State → ℕ → Move → State → List Token → List Token → Type 0
DoesAs (Ok c) from count m st before after = (xs : List Token) × (after ≡ before ++ xs) × Comes from count m (goes st xs) c
DoesAs (Err NoMemory) from count m st before after = Unit {0}
DoesAs (Err (Refused e)) from count m st before after = (c : ℕ) × Comes from count m (refuses e) c
