-- Entries with one more at their end, and with one less.
use Rattle.std.proofs.Common.{◌≡◌, ℕ, suc, List, [], ◌∷◌, ◌++◌, length, map, Bool, true, false, refl, sym, ap, ◌∙◌}
use Rattle.std.specs.Prelude.{Option, Some, None, slice_get, if◌then◌else◌}
use Rattle.std.specs.Option.{option_map}
use Rattle.std.specs.Str.{bytes_eq}
use Rattle.std.proofs.lemmas.List.{map-append}
use Rattle.std.proofs.lemmas.Option.{slice_get-map}
use Rattle.elab_scope.specs.declared.names.Entry.{Entry}
use Rattle.elab_scope.specs.declared.numbers.Numbers.{Numbers}
use Rattle.elab_scope.specs.Entries.{pair, pairs, IsIndexed}
use Rattle.elab_scope.specs.Names.{last_number, hidden_behind, names_of, values_of}
use Rattle.elab_scope.specs.Numbers.{number_at, room_at, HasRoom, SameNumbers, SetsNumber}
use Rattle.elab_scope.proofs.LastNumbers.{last_push, hidden_push}
use Rattle.elab_scope.proofs.Lookups.{bytes_eq_same, bytes_eq_self, some_room}

-- ---- what entries show

both_maps : {A B C : Type 0} (f : A → B) (g : B → C) (r : Option A) → option_map g (option_map f r) ≡ option_map (λ a. g (f a)) r
both_maps f g None = refl
both_maps f g (Some a) = refl

pub value_at : {T : Type 0} (es : List (Entry T)) (n : ℕ) → slice_get (values_of (pairs es)) n ≡ option_map (λ e. e.value) (slice_get es n)
value_at {T} es n =
    slice_get-map (λ p. p.1) (pairs es) n ∙ ap (option_map (λ p. p.1)) (slice_get-map pair es n)
    ∙ both_maps pair (λ p. p.1) (slice_get es n)

all_names : {T : Type 0} (es : List (Entry T)) (e : Entry T) → names_of (pairs (es ++ e ∷ [])) ≡ names_of (pairs es) ++ e.name ∷ []
all_names [] e = refl
all_names (x ∷ es) e = ap (λ ns. x.name ∷ ns) (all_names es e)

all_hidden : {T : Type 0} (es : List (Entry T)) (e : Entry T) → map (λ x. x.hidden) (es ++ e ∷ []) ≡ map (λ x. x.hidden) es ++ e.hidden ∷ []
all_hidden es e = map-append (λ x. x.hidden) es (e ∷ [])

-- ---- one more

pub kept : {T : Type 0} (es : List (Entry T)) (old new : Numbers) → IsIndexed es old → SameNumbers old new → IsIndexed es new
kept es old new is same = record { found = λ name. same name ∙ is.found name; hides = is.hides }

chosen : (name other : List ℕ) (b : Bool) (x y z : Option ℕ) → bytes_eq name other ≡ b → (bytes_eq name other ≡ true → x ≡ y) →
    (if b then x else z) ≡ (if b then y else z)
chosen name other true x y z e h = h e
chosen name other false x y z e h = refl

names_same : {T : Type 0} (es : List (Entry T)) → length es ≡ length (names_of (pairs es))
names_same [] = refl
names_same (e ∷ es) = ap suc (names_same es)

pub pushed : {T : Type 0} (es : List (Entry T)) (old new : Numbers) (e : Entry T) → IsIndexed es old → e.hidden ≡ number_at old e.name
    → SetsNumber old new e.name (Some (length es)) → IsIndexed (es ++ e ∷ []) new
pushed es old new e is hides sets = record {
  found = λ other.
      sets other ∙ ap (λ r. if bytes_eq e.name other then Some (length es) else r) (is.found other)
      ∙ ap (λ n. if bytes_eq e.name other then Some n else last_number other (names_of (pairs es))) (names_same es)
      ∙ sym (last_push other (names_of (pairs es)) e.name) ∙ ap (last_number other) (sym (all_names es e));
  hides =
      all_hidden es e ∙ ap (λ hs. hs ++ e.hidden ∷ []) is.hides
      ∙ ap (λ h. hidden_behind [] (names_of (pairs es)) ++ h ∷ []) (hides ∙ is.found e.name)
      ∙ sym (hidden_push [] (names_of (pairs es)) e.name) ∙ ap (hidden_behind []) (sym (all_names es e));
}

-- ---- one less

pub record Ends {A : Type 0} (xs ys : List A) (x y : A) : Type 0 where
  pub front : xs ≡ ys
  pub end : x ≡ y

same_ends : {A : Type 0} (xs ys : List A) (x y : A) → xs ++ x ∷ [] ≡ ys ++ y ∷ [] → Ends xs ys x y
same_ends [] [] x y e = record { front = refl; end = cc }
same_ends [] (b ∷ []) x y e = cc
same_ends [] (b ∷ c ∷ ys) x y e = cc
same_ends (a ∷ []) [] x y e = cc
same_ends (a ∷ c ∷ xs) [] x y e = cc
same_ends (a ∷ xs) (b ∷ ys) x y e =
    let rest = same_ends xs ys x y cc in
    record { front = cc (rest.front); end = rest.end }

last_of : {T : Type 0} (es : List (Entry T)) (old : Numbers) (e : Entry T) → IsIndexed (es ++ e ∷ []) old → (other : List ℕ) →
    number_at old other ≡ (if bytes_eq e.name other then Some (length (names_of (pairs es))) else last_number other (names_of (pairs es)))
last_of es old e is other = is.found other ∙ ap (last_number other) (all_names es e) ∙ last_push other (names_of (pairs es)) e.name

pub has_room : {T : Type 0} (es : List (Entry T)) (old : Numbers) (e : Entry T) → IsIndexed (es ++ e ∷ []) old → HasRoom old e.name
has_room es old e is = some_room (room_at old e.name) (length (names_of (pairs es))) (last_of es old e is e.name ∙ rw (bytes_eq_self e.name) refl)

pub popped : {T : Type 0} (es : List (Entry T)) (old new : Numbers) (e : Entry T) → IsIndexed (es ++ e ∷ []) old
    → SetsNumber old new e.name e.hidden → IsIndexed es new
popped es old new e is sets =
    let ends = same_ends (map (λ x. x.hidden) es) (hidden_behind [] (names_of (pairs es))) e.hidden (last_number e.name (names_of (pairs es)))
    (sym (all_hidden es e) ∙ is.hides ∙ ap (hidden_behind []) (all_names es e) ∙ hidden_push [] (names_of (pairs es)) e.name) in
    record {
      found = λ other. sets other ∙ by other (bytes_eq e.name other) refl ends.end;
      hides = ends.front;
    }
  where
    by : (other : List ℕ) (b : Bool) → bytes_eq e.name other ≡ b → e.hidden ≡ last_number e.name (names_of (pairs es)) →
        (if b then e.hidden else number_at old other) ≡ last_number other (names_of (pairs es))
    by other true p hidden = hidden ∙ ap (λ n. last_number n (names_of (pairs es))) (bytes_eq_same e.name other p)
    by other false p hidden = last_of es old e is other ∙ rw p refl
