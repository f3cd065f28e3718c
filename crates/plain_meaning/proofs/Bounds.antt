-- A larger bound shows no less, and changes nothing of a run that is over.
use Rattle.std.proofs.Common.{◌≡◌, ℕ, suc, ◌≤◌, List, [], ◌∷◌, ◌++◌, Bool, true, false, refl, sym, append_assoc, subst, arith}
use Rattle.std.specs.Prelude.{slice_get}
use Rattle.c_tree.specs.declared.programs.TypedTree.{TypedTree}
use Rattle.fc_base.specs.Outside.{IsFront}
use Rattle.fc_base.specs.declared.levels.End.{End}
use Rattle.fc_base.specs.declared.levels.Level.{Level}
use Rattle.fc_base.specs.declared.levels.Level.TheVariants.{Zero, Three}
use Rattle.fc_base.specs.declared.refusals.Place.{Place}
use Rattle.fc_base.specs.declared.undefined.UndefKind.{UndefKind}
use Rattle.run_meaning.specs.Events.{Event, Moved, Asked, Check, checked, shown_of, shown_by, shown_at_end, source_shown}
use Rattle.run_meaning.specs.Runs.{Shown, Standing, Ended, Undefined, Going}
use Rattle.run_meaning.specs.Worlds.{Input}
use Rattle.object_meaning.specs.declared.values.Value.{Value}
use Rattle.plain_meaning.specs.Actions.{Outcome, On, Stop}
use Rattle.plain_meaning.specs.Laws.{BoundKeeps, EventsGrow, ShownGrows}
use Rattle.plain_meaning.specs.Programs.{start, entry, answer_of, params_of, plain}
use Rattle.plain_meaning.proofs.Extends.{Later, on, over, going, front_self, front_behind}
use Rattle.plain_meaning.proofs.ExtendsFunctions.{extends_entry}

-- the second run is the first, or that one wanted a step and its events are the first of the second's
pub data After (first : List Event × Standing) (second : List Event × Standing) : Type 0 where
  same : second ≡ first → After first second
  further : first.1 ≡ Going → IsFront first.0 second.0 → After first second

after_outcome : (events : List Event) (n m : ℕ) (o p : Outcome Value) → Later events n m o p → After (answer_of o) (answer_of p)
after_outcome events n m _ _ (on v s i j le is front) = same refl
after_outcome events n m _ _ (over more standing front) = same refl
after_outcome events n m _ _ (going more (On v s i) lt front next) = further refl next
after_outcome events n m _ _ (going more (Stop events' standing) lt front next) = further refl next

after : (tree : TypedTree) (args : List (List ℕ)) (input : Input) (n m : ℕ) → n ≤ m → After (plain tree args input n) (plain tree args input m)
after tree args input n m le =
    let f = slice_get tree.functions tree.main in
    let s = start tree.objects (params_of f) args input in
    after_outcome s.events n m (entry tree args f s n) (entry tree args f s m)
    ((extends_entry tree {low = suc n} {high = suc m} args f).later s n m le (omega arith) (omega arith))

-- ---- a run that is over

ended_same : (first second : List Event × Standing) (end : End) → After first second → first.1 ≡ Ended end → second ≡ first
ended_same first second end (same is) ended = is
ended_same first second end (further is front) ended = absurd (cc)

undefined_same : (first second : List Event × Standing) (kind : UndefKind) (at : Place) → After first second → first.1 ≡ Undefined kind at → second ≡ first
undefined_same first second kind at (same is) ended = is
undefined_same first second kind at (further is front) ended = absurd (cc)

pub bound_keeps : BoundKeeps
bound_keeps = record {
  ends = λ tree args input n m end le is. ended_same _ _ end (after tree args input n m le) is;
  undefined = λ tree args input n m kind at le is. undefined_same _ _ kind at (after tree args input n m le) is;
}

-- ---- events

front_after : (first second : List Event × Standing) → After first second → IsFront first.0 second.0
front_after first second (same is) = subst (λ x. IsFront first.0 x.0) (sym is) (front_self first.0)
front_after first second (further is front) = front

pub events_grow : EventsGrow
events_grow tree args input n m le = front_after _ _ (after tree args input n m le)

-- ---- what is shown

module _ (level : Level) (sizes : Bool) where
  abbrev shows : List Event × Standing → Shown
  shows run = shown_by level sizes run.0 ++ shown_at_end run.1

  -- an event in front
  shown_more : (e : Event) (run : List Event × Standing) → shows (e ∷ run.0, run.1) ≡ shown_of level sizes e ++ shows run
  shown_more e run = append_assoc (shown_of level sizes e) (shown_by level sizes run.0) (shown_at_end run.1)

  front_more : (e : Event) (a b : List Event × Standing) → IsFront (shows a) (shows b) → IsFront (shows (e ∷ a.0, a.1)) (shows (e ∷ b.0, b.1))
  front_more e a b f =
      subst (λ x. IsFront x (shows (e ∷ b.0, b.1))) (sym (shown_more e a))
      (subst (λ x. IsFront (shown_of level sizes e ++ shows a) x) (sym (shown_more e b)) (front_behind (shown_of level sizes e) (shows a) (shows b) f))

  -- events whose checks are looked at
  checked_front : (more rest : List Event) (standing : Standing) → IsFront (shows (checked more Going)) (shows (checked (more ++ rest) standing))
  checked_front [] rest standing = (shows (checked rest standing), refl)
  checked_front (Check at size true ∷ es) rest standing = front_self _
  checked_front (Check at size false ∷ es) rest standing = front_more (Check at size false) (checked es Going) (checked (es ++ rest) standing) (checked_front es rest standing)
  checked_front (Moved descriptor bytes ∷ es) rest standing = front_more (Moved descriptor bytes) (checked es Going) (checked (es ++ rest) standing) (checked_front es rest standing)
  checked_front (Asked at mode value true_size resolved written ∷ es) rest standing =
      front_more (Asked at mode value true_size resolved written) (checked es Going) (checked (es ++ rest) standing) (checked_front es rest standing)

  -- and events whose checks aren't
  plain_front : (more rest : List Event) (standing : Standing) → IsFront (shows (more, Going)) (shows (more ++ rest, standing))
  plain_front [] rest standing = (shows (rest, standing), refl)
  plain_front (e ∷ es) rest standing = front_more e (es, Going) (es ++ rest, standing) (plain_front es rest standing)

level_front : (level : Level) (sizes : Bool) (more rest : List Event) (standing : Standing)
    → IsFront (source_shown level sizes more Going).0 (source_shown level sizes (more ++ rest) standing).0
level_front Zero sizes more rest standing = plain_front Zero sizes more rest standing
level_front Three sizes more rest standing = checked_front Three sizes more rest standing

shown_after : (level : Level) (sizes : Bool) (first second : List Event × Standing) → After first second
    → IsFront (source_shown level sizes first.0 first.1).0 (source_shown level sizes second.0 second.1).0
shown_after level sizes first second (same is) =
    subst (λ x. IsFront (source_shown level sizes first.0 first.1).0 (source_shown level sizes x.0 x.1).0) (sym is) (front_self _)
shown_after level sizes first second (further is front) =
    subst (λ x. IsFront (source_shown level sizes first.0 x).0 (source_shown level sizes second.0 second.1).0) (sym is)
    (subst (λ x. IsFront (source_shown level sizes first.0 Going).0 (source_shown level sizes x second.1).0) (sym front.1)
    (level_front level sizes first.0 front.0 second.1))

pub shown_grows : ShownGrows
shown_grows tree level sizes args input n m le = shown_after level sizes _ _ (after tree args input n m le)
