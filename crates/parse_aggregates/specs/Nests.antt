-- A function value that reads specifiers to a depth.
use Rattle.std.specs.Prelude.{ℕ, ◌≤◌, ◌<◌, Result, IfOk, List, length}
use Rattle.std.specs.declared.alloc.Global.{Global}
use denote.Ref.{MutBor}
use Rattle.parse_meaning.specs.Terminals.{Lexeme}
use Rattle.parse_reading.specs.ReadingDeclarators.{outer_spec}
use Rattle.parse_tokens.specs.Rooms.{depth_room}
use Rattle.parse_tokens.specs.Gives.{Low}
use Rattle.parse_tokens.specs.declared.faults.ParseFault.{ParseFault}
use Rattle.parse_tokens.specs.declared.faults.WithHeight.{WithHeight}
use Rattle.parse_leaves.specs.declared.specifiers.Counted.{Counted}
use Rattle.parse_leaves.specs.Counts.{GivesCounted, total}

pub record NestsSpecs (depth : ℕ) (pre : Global → MutBor (List Lexeme) → ℕ → Type 0)
    (post : Global → MutBor (List Lexeme) → ℕ → Result (WithHeight Counted) ParseFault → MutBor (List Lexeme) → Type 0) : Type 0 where
  pub callable : (alloc : Global) (old : MutBor (List Lexeme)) → pre alloc old depth
  pub reads : (alloc : Global) (old new : MutBor (List Lexeme)) (r : Result (WithHeight Counted) ParseFault) → post alloc old depth r new
      → GivesCounted (outer_spec depth old.now) r new.now
  pub low : (alloc : Global) (old new : MutBor (List Lexeme)) (r : Result (WithHeight Counted) ParseFault) → post alloc old depth r new
      → Low depth r old.now new.now
  pub small : (alloc : Global) (old new : MutBor (List Lexeme)) (r : Result (WithHeight Counted) ParseFault) → post alloc old depth r new
      → IfOk r (λ x. total x.tree.tally ≤ 1)
  pub on : (alloc : Global) (old new : MutBor (List Lexeme)) (r : Result (WithHeight Counted) ParseFault) → post alloc old depth r new
      → IfOk r (λ _. length new.now < length old.now)
  pub few : depth < depth_room
