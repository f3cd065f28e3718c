-- What a call that types a part of a file has done, where contracts see what it gives in their own way; and a function value that types
-- expressions no higher than its room.
use Rattle.std.specs.Prelude.{◌≡◌, ◌≤◌, ℕ, Result, Ok, Err}
use Rattle.std.specs.declared.alloc.Global.{Global}
use denote.Ref.{Bor, MutBor}
use Rattle.fc_base.specs.declared.refusals.Fault.{Fault}
use Rattle.fc_base.specs.declared.refusals.Fault.TheVariants as fault
use Rattle.fc_base.specs.declared.refusals.Refusal.{Refusal}
use Rattle.c_tree.specs.declared.nodes.Expr.{Expr}
use Rattle.c_tree.specs.Heights.{expr_height}
use Rattle.c_tree.specs.declared.typed.TypedExpr.{TypedExpr}
use Rattle.elab_meaning.specs.Typing.{Typing}
use Rattle.elab_meaning.specs.Trees.{read_expr}
use Rattle.elab_scope.specs.declared.state.State.{State}
use Rattle.elab_scope.specs.States.{state_of, Types, Grows}

-- as `Types` says it
abbrev pub TypesAs : {X A : Type 0} → (X → A) → Typing A → State → Result X Fault → State → Type 0
TypesAs see part old (Ok x) new = part (state_of old) ≡ Ok (see x, state_of new)
TypesAs see part old (Err (fault.Refused r)) new = part (state_of old) ≡ Err r
TypesAs see part old (Err fault.NoMemory) new = Unit {0}

-- the same value, or the same refusal; want of memory is left aside
abbrev pub GivesAs : {X A : Type 0} → (X → A) → Result X Fault → Result A Refusal → Type 0
GivesAs see (Ok x) answer = answer ≡ Ok (see x)
GivesAs see (Err (fault.Refused r)) answer = answer ≡ Err r
GivesAs see (Err fault.NoMemory) answer = Unit {0}

pub record Nests (room : ℕ) (pre : Global → MutBor State → Bor Expr → ℕ → Type 0)
    (post : Global → MutBor State → Bor Expr → ℕ → Result TypedExpr Fault → MutBor State → Type 0) : Type 0 where
  pub callable : (alloc : Global) (old : MutBor State) (e : Bor Expr) → expr_height e.now ≤ room → pre alloc old e room
  pub types : (alloc : Global) (old new : MutBor State) (e : Bor Expr) (r : Result TypedExpr Fault) → post alloc old e room r new
      → Types ((read_expr e.now).typed) old.now r new.now
  pub grows : (alloc : Global) (old new : MutBor State) (e : Bor Expr) (r : Result TypedExpr Fault) → post alloc old e room r new
      → Grows old.now new.now
