-- A function value that reads expressions to a depth.
use Rattle.std.specs.Prelude.{ℕ, ◌≤◌, ◌<◌, Result, IfOk, List}
use Rattle.std.specs.declared.alloc.Global.{Global}
use denote.Ref.{MutBor}
use Rattle.c_tree.specs.declared.nodes.Expr.{Expr}
use Rattle.parse_meaning.specs.Terminals.{Lexeme}
use Rattle.parse_reading.specs.Reading.{expression}
use Rattle.parse_tokens.specs.Rooms.{depth_room}
use Rattle.parse_tokens.specs.declared.faults.ParseFault.{ParseFault}
use Rattle.parse_tokens.specs.declared.faults.WithHeight.{WithHeight}
use Rattle.parse_tokens.specs.Gives.{Gives}

pub record Nests (depth : ℕ) (pre : Global → MutBor (List Lexeme) → ℕ → ℕ → Type 0)
    (post : Global → MutBor (List Lexeme) → ℕ → ℕ → Result (WithHeight Expr) ParseFault → MutBor (List Lexeme) → Type 0) : Type 0 where
  pub callable : (alloc : Global) (old : MutBor (List Lexeme)) (level : ℕ) → pre alloc old depth level
  pub reads : (alloc : Global) (old new : MutBor (List Lexeme)) (level : ℕ) (r : Result (WithHeight Expr) ParseFault) → post alloc old depth level r new
      → Gives (expression depth level old.now) r new.now
  pub low : (alloc : Global) (old new : MutBor (List Lexeme)) (level : ℕ) (r : Result (WithHeight Expr) ParseFault) → post alloc old depth level r new
      → IfOk r (λ x. x.height ≤ depth)
  pub few : depth < depth_room
