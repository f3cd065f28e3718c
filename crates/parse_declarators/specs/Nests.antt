-- A function value that reads declarators to a depth.
use Rattle.std.specs.Prelude.{ℕ, ◌<◌, Result, IfOk, List, length}
use Rattle.std.specs.declared.alloc.Global.{Global}
use denote.Ref.{MutBor}
use Rattle.parse_meaning.specs.Terminals.{Lexeme}
use Rattle.parse_reading.specs.ReadingDeclarators.{declarator}
use Rattle.parse_tokens.specs.Rooms.{depth_room}
use Rattle.parse_tokens.specs.Gives.{Low}
use Rattle.parse_tokens.specs.declared.faults.ParseFault.{ParseFault}
use Rattle.parse_tokens.specs.declared.faults.WithHeight.{WithHeight}
use Rattle.parse_declarators.specs.declared.named.Named.{Named}
use Rattle.parse_declarators.specs.Named.{GivesNamed}

pub record Nests (depth : ℕ) (pre : Global → MutBor (List Lexeme) → ℕ → Type 0)
    (post : Global → MutBor (List Lexeme) → ℕ → Result (WithHeight Named) ParseFault → MutBor (List Lexeme) → Type 0) : Type 0 where
  pub callable : (alloc : Global) (old : MutBor (List Lexeme)) → pre alloc old depth
  pub reads : (alloc : Global) (old new : MutBor (List Lexeme)) (r : Result (WithHeight Named) ParseFault) → post alloc old depth r new
      → GivesNamed (declarator depth old.now) r new.now
  pub low : (alloc : Global) (old new : MutBor (List Lexeme)) (r : Result (WithHeight Named) ParseFault) → post alloc old depth r new
      → Low depth r old.now new.now
  pub on : (alloc : Global) (old new : MutBor (List Lexeme)) (r : Result (WithHeight Named) ParseFault) → post alloc old depth r new
      → IfOk r (λ _. length new.now < length old.now)
  pub few : depth < depth_room
