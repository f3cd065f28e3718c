-- The leaves of one initialiser and those behind it, each judged in its turn.
use Rattle.std.proofs.Common.{◌≡◌, ℕ, ◌+◌, ◌<◌, Bool, true, false, not, List, [], ◌∷◌, ◌++◌, length, get_or, drop, Option, Some, None, Result, Ok, Err, refl, sym, ap, ◌∙◌}
use Rattle.std.specs.Prelude.{⊤, flat_map, if◌then◌else◌}
use Rattle.std.proofs.lemmas.List.{at_drop_more}
use Rattle.fc_base.specs.declared.refusals.Fault.{Fault}
use Rattle.fc_base.specs.declared.refusals.Fault.TheVariants as fault
use Rattle.fc_base.specs.declared.refusals.Place.{Place}
use Rattle.fc_base.specs.declared.refusals.Refusal.{Refusal}
use Rattle.fc_base.specs.declared.rules.Rule.TheVariants.{NotConstant}
use Rattle.c_tree.specs.declared.typed.TypedExpr.{TypedExpr}
use Rattle.c_tree.specs.declared.typed.TypedInit.{TypedInit}
use Rattle.c_tree.specs.declared.typed.TypedInit.TheVariants as init
use Rattle.elab_meaning.specs.Initialisers.{Leaf, leaves, is_constant_leaf}
use Rattle.elab_meaning.specs.Statements.{constant_leaves}
use Rattle.elab_meaning.specs.Typing.{State, Typing, answered, judged, goes_on}
use Rattle.elab_scope.specs.declared.state.State.{State as Kept}
use Rattle.elab_scope.specs.States.{Types, state_of}
use Rattle.elab_initialisers.proofs.Gathered.{leaves-Expr}

module _ (s : State) where
  -- what a leaf's answer leads to
  abbrev behind : (place : Place) (broken : Bool) → Typing ⊤ → Result (⊤ × State) Refusal
  behind place broken rest =
      goes_on {A = ⊤} {B = ⊤} (answered {A = ⊤} (judged {A = ⊤} place ((NotConstant, broken) ∷ []) tt) s) (λ _. rest)

  along : (place : Place) (broken : Bool) (all these rest : Typing ⊤) → all s ≡ goes_on {A = ⊤} {B = ⊤} (these s) (λ _. rest)
      → behind place broken all ≡ goes_on {A = ⊤} {B = ⊤} (behind place broken these) (λ _. rest)
  along place true all these rest is = refl
  along place false all these rest is = is

  pub each_constant : (ls rest : List Leaf)
      → constant_leaves (ls ++ rest) s ≡ goes_on {A = ⊤} {B = ⊤} (constant_leaves ls s) (λ _. constant_leaves rest)
  each_constant [] rest = refl
  each_constant (l ∷ ls) rest =
      along l.value.place (not (is_constant_leaf s.scope.tags s.scope.objects l)) (constant_leaves (ls ++ rest)) (constant_leaves ls)
      (constant_leaves rest) (each_constant ls rest)

  -- those from an initialiser on
  pub next_constant : (items : List TypedInit) (i : ℕ) (item : TypedInit) → i < length items → item ≡ get_or items i item
      → constant_leaves (flat_map leaves (drop i items)) s
      ≡ goes_on {A = ⊤} {B = ⊤} (constant_leaves (leaves item) s) (λ _. constant_leaves (flat_map leaves (drop (i + 1) items)))
  next_constant items i item h is =
      at_drop_more (λ rest. constant_leaves (flat_map leaves rest) s) items i item h
      ∙ ap (λ x. constant_leaves (leaves x ++ flat_map leaves (drop (i + 1) items)) s) (sym is)
      ∙ each_constant (leaves item) (flat_map leaves (drop (i + 1) items))

  -- a leaf by itself
  pub known : (whole : TypedInit) (at : ℕ) (x : TypedExpr) → whole ≡ init.Expr at x
      → is_constant_leaf s.scope.tags s.scope.objects (record { offset = at; value = x }) ≡ true → constant_leaves (leaves whole) s ≡ Ok (tt, s)
  known whole at x is holds =
      ap (λ i. constant_leaves (leaves i) s) is ∙ ap (λ ls. constant_leaves ls s) (leaves-Expr at x)
      ∙ ap (λ b. behind x.place (not b) (constant_leaves [])) holds

  pub unknown : (whole : TypedInit) (at : ℕ) (x : TypedExpr) → whole ≡ init.Expr at x
      → is_constant_leaf s.scope.tags s.scope.objects (record { offset = at; value = x }) ≡ false
      → constant_leaves (leaves whole) s ≡ Err (record { rule = NotConstant; place = x.place })
  unknown whole at x is fails =
      ap (λ i. constant_leaves (leaves i) s) is ∙ ap (λ ls. constant_leaves ls s) (leaves-Expr at x)
      ∙ ap (λ b. behind x.place (not b) (constant_leaves [])) fails

-- where one of them is refused, so are all
pub stops : (fault : Fault) (old : Kept) (whole : Typing ⊤) (items : List TypedInit) (i : ℕ) (item : TypedInit) → i < length items
    → item ≡ get_or items i item → whole (state_of old) ≡ constant_leaves (flat_map leaves (drop i items)) (state_of old)
    → Types (constant_leaves (leaves item)) old (Err fault) old → Types whole old (Err fault) old
stops fault.NoMemory old whole items i item h is all refused = tt
stops (fault.Refused r) old whole items i item h is all refused =
    all ∙ next_constant (state_of old) items i item h is
    ∙ ap (λ answer. goes_on {A = ⊤} {B = ⊤} answer (λ _. constant_leaves (flat_map leaves (drop (i + 1) items)))) refused

pub goes : (old : Kept) (items : List TypedInit) (i : ℕ) (item : TypedInit) → i < length items → item ≡ get_or items i item
    → constant_leaves (leaves item) (state_of old) ≡ Ok (tt, state_of old)
    → constant_leaves (flat_map leaves (drop i items)) (state_of old) ≡ constant_leaves (flat_map leaves (drop (i + 1) items)) (state_of old)
goes old items i item h is typed =
    next_constant (state_of old) items i item h is
    ∙ ap (λ answer. goes_on {A = ⊤} {B = ⊤} answer (λ _. constant_leaves (flat_map leaves (drop (i + 1) items)))) typed
