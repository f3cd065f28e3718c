-- Laws of the plain meaning: more steps only show more, and change nothing of a run that is over.
use Rattle.std.specs.Prelude.{◌≡◌, ℕ, ◌≤◌, Bool, List}
use Rattle.fc_base.specs.declared.levels.End.{End}
use Rattle.fc_base.specs.declared.levels.Level.{Level}
use Rattle.fc_base.specs.declared.refusals.Place.{Place}
use Rattle.fc_base.specs.declared.undefined.UndefKind.{UndefKind}
use Rattle.fc_base.specs.Outside.{IsFront}
use Rattle.c_tree.specs.declared.programs.TypedTree.{TypedTree}
use Rattle.run_meaning.specs.Events.{source_shown}
use Rattle.run_meaning.specs.Runs.{Ended, Undefined}
use Rattle.run_meaning.specs.Worlds.{Input}
use Rattle.plain_meaning.specs.Programs.{plain}

-- a bound at which a run is over is large enough: a larger one gives the same events and the same end
pub record BoundKeeps : Type 0 where
  pub ends : (tree : TypedTree) (args : List (List ℕ)) (input : Input) (n m : ℕ) (end : End) → n ≤ m
      → (plain tree args input n).1 ≡ Ended end → plain tree args input m ≡ plain tree args input n
  pub undefined : (tree : TypedTree) (args : List (List ℕ)) (input : Input) (n m : ℕ) (kind : UndefKind) (at : Place) → n ≤ m
      → (plain tree args input n).1 ≡ Undefined kind at → plain tree args input m ≡ plain tree args input n

-- the events at a bound are the first of those at a larger one
abbrev pub EventsGrow : Type 0
EventsGrow =
    (tree : TypedTree) (args : List (List ℕ)) (input : Input) (n m : ℕ) → n ≤ m
    → IsFront (plain tree args input n).0 (plain tree args input m).0

-- what a source shows at a bound, at a level and with or without size lines
abbrev pub shown_at : TypedTree → Level → Bool → List (List ℕ) → Input → ℕ → List (ℕ × ℕ)
shown_at tree level sizes args input n = (source_shown level sizes (plain tree args input n).0 (plain tree args input n).1).0

-- and so is what is shown, up to an undefined operation as up to any end, and up to the check that cuts a run off
abbrev pub ShownGrows : Type 0
ShownGrows =
    (tree : TypedTree) (level : Level) (sizes : Bool) (args : List (List ℕ)) (input : Input) (n m : ℕ) → n ≤ m
    → IsFront (shown_at tree level sizes args input n) (shown_at tree level sizes args input m)
