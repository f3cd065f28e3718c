-- What typing a part leaves as it was of the structures and unions: a complete one keeps its members, and one whose body is being read
-- stays as it is, with its body open.
use Rattle.std.specs.Prelude.{◌≡◌, ◌==◌, ℕ, Bool, true, List, slice_get, Some, Ok}
use Rattle.std.specs.List.{list_any}
use Rattle.c_layout.specs.declared.tags.TagDef.{TagDef}
use Rattle.elab_meaning.specs.Typing.{State, Typing}

abbrev pub is_among : ℕ → List ℕ → Bool
is_among n tags = list_any (λ tag. tag == n) tags

pub record Kept (s t : State) : Type 0 where
  pub complete : (n : ℕ) (d : TagDef) → slice_get s.scope.tags n ≡ Some d → d.complete ≡ true → slice_get t.scope.tags n ≡ Some d
  pub opened : (n : ℕ) (d : TagDef) → slice_get s.scope.tags n ≡ Some d → is_among n s.beside.open_tags ≡ true
      → (slice_get t.scope.tags n ≡ Some d) × (is_among n t.beside.open_tags ≡ true)

abbrev pub Keeps : {A : Type 0} → Typing A → Type 0
Keeps {A} part = (s t : State) (a : A) → part s ≡ Ok (a, t) → Kept s t
