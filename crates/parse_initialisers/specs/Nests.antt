-- A function value that reads trees to a depth.
use Rattle.std.specs.Prelude.{ℕ, ◌<◌, ◌+◌, List, Option, Result}
use Rattle.std.specs.declared.alloc.Global.{Global}
use denote.Ref.{MutBor}
use Rattle.parse_meaning.specs.Terminals.{Lexeme}
use Rattle.parse_reading.specs.Reading.{Read}
use Rattle.parse_tokens.specs.Rooms.{depth_room}
use Rattle.parse_tokens.specs.Gives.{Gives}
use Rattle.parse_tokens.specs.declared.faults.ParseFault.{ParseFault}
use Rattle.parse_tokens.specs.declared.faults.WithHeight.{WithHeight}
use Rattle.parse_initialisers.specs.Readers.{Within}

pub record Nests {A : Type 0} (read : ℕ → List Lexeme → Option (Read A)) (depth : ℕ) (pre : Global → MutBor (List Lexeme) → ℕ → Type 0)
    (post : Global → MutBor (List Lexeme) → ℕ → Result (WithHeight A) ParseFault → MutBor (List Lexeme) → Type 0) : Type 0 where
  pub callable : (alloc : Global) (old : MutBor (List Lexeme)) → pre alloc old depth
  pub reads : (alloc : Global) (old new : MutBor (List Lexeme)) (r : Result (WithHeight A) ParseFault) → post alloc old depth r new
      → Gives (read depth old.now) r new.now
  pub low : (alloc : Global) (old new : MutBor (List Lexeme)) (r : Result (WithHeight A) ParseFault) → post alloc old depth r new
      → Within depth r
  pub few : depth + 1 < depth_room
