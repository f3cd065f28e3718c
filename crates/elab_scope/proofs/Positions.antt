-- The first definition with a tag, in a list that grows at its end or of which a definition is replaced.
use Rattle.std.proofs.Common.{◌≡◌, ℕ, zero, suc, ◌+◌, ◌≤◌, List, [], ◌∷◌, ◌++◌, length, take, drop, map, ◌<◌, Bool, true, false, cond, refl, sym, ap, subst, ◌∙◌, arith, add-zero, add-one, length-drop, length-append, length-set}
use Rattle.std.specs.Prelude.{Option, Some, None, is_none, Result, Ok, Err, IfOk, OnErr, position, slice_get, slice_set, if◌then◌else◌, not, ◌&&◌, IsSomeAnd}
use Rattle.std.specs.Option.{option_or, option_map_or}
use Rattle.std.specs.List.{position_from}
use Rattle.std.specs.Str.{bytes_eq}
use Rattle.std.proofs.lemmas.List.{take-append-drop, length-take-le}
use Rattle.std.proofs.lemmas.Iterator.Adapters.{position_from-zero}
use Rattle.c_layout.specs.declared.tags.TagDef.{TagDef}
use Rattle.c_layout.proofs.Edits.{slice_get-push_same}
use Rattle.fc_base.specs.declared.faults.NoMemory.{NoMemory}
use Rattle.elab_meaning.specs.Scope.{is_named}
use Rattle.elab_scope.specs.declared.numbers.Numbers.{Numbers}
use Rattle.elab_scope.specs.Numbers.{number_at, SameNumbers, SetsNumber}
use Rattle.elab_scope.specs.Tags.{AreFound, is_new}
use Rattle.elab_scope.proofs.Lookups.{bytes_eq_same}

module _ {A : Type 0} (p : A → Bool) where
  or_first : (b : Bool) (k : ℕ) (r s : Option ℕ) → cond b (Some k) (option_or r s) ≡ option_or (cond b (Some k) r) s
  or_first true k r s = refl
  or_first false k r s = refl

  pub from_append : (k : ℕ) (xs ys : List A) → position_from p k (xs ++ ys) ≡ option_or (position_from p k xs) (position_from p (k + length xs) ys)
  from_append k [] ys = ap (λ n. position_from p n ys) (sym (add-zero k))
  from_append k (x ∷ xs) ys =
      let along : k + 1 + length xs ≡ k + suc (length xs) = omega arith in
      ap (λ r. cond (p x) (Some k) r) (from_append (k + 1) xs ys)
      ∙ or_first (p x) k _ _
      ∙ ap (λ n. option_or (cond (p x) (Some k) (position_from p (k + 1) xs)) (position_from p n ys)) along

  -- the first of all, from the first of a front and the first of the rest
  pub position_parts : (n : ℕ) (xs : List A) → n ≤ length xs →
      position p xs ≡ option_or (position_from p 0 (take n xs)) (position_from p n (drop n xs))
  position_parts n xs within =
      let len : 0 + length (take n xs) ≡ n = omega (arith, length-take-le n xs within) in
      position_from-zero p xs ∙ ap (position_from p 0) (sym (take-append-drop n xs)) ∙ from_append 0 (take n xs) (drop n xs)
      ∙ ap (λ m. option_or (position_from p 0 (take n xs)) (position_from p m (drop n xs))) len

-- ---- a definition is replaced by one of the same tag

abbrev tag_names : List TagDef → List (List ℕ)
tag_names = map (λ d. d.name)

abbrev is_word : List ℕ → List ℕ → Bool
is_word name n = not (bytes_eq n []) && bytes_eq n name

by_names : (name : List ℕ) (k : ℕ) (defs : List TagDef) → position_from (is_named name) k defs ≡ position_from (is_word name) k (tag_names defs)
by_names name k [] = refl
by_names name k (d ∷ defs) = ap (λ r. cond (is_named name d) (Some k) r) (by_names name (k + 1) defs)

names_set : (defs : List TagDef) (i : ℕ) (def : TagDef) → IsSomeAnd (slice_get defs i) (λ old. old.name ≡ def.name) →
    tag_names (slice_set defs i def) ≡ tag_names defs
names_set [] i def h = refl
names_set (d ∷ defs) zero def h = ap (λ n. n ∷ tag_names defs) (sym h)
names_set (d ∷ defs) (suc i) def h = ap (λ ns. d.name ∷ ns) (names_set defs i def h)

names_drop : (n : ℕ) (defs : List TagDef) → tag_names (drop n defs) ≡ drop n (tag_names defs)
names_drop zero defs = refl
names_drop (suc n) [] = refl
names_drop (suc n) (d ∷ defs) = names_drop n defs

pub found_set : (name : List ℕ) (given : ℕ) (defs : List TagDef) (i : ℕ) (def : TagDef) → IsSomeAnd (slice_get defs i) (λ old. old.name ≡ def.name) →
    position_from (is_named name) given (drop given (slice_set defs i def)) ≡ position_from (is_named name) given (drop given defs)
found_set name given defs i def h =
    by_names name given (drop given (slice_set defs i def))
    ∙ ap (position_from (is_word name) given) (names_drop given (slice_set defs i def) ∙ ap (drop given) (names_set defs i def h) ∙ sym (names_drop given defs))
    ∙ sym (by_names name given (drop given defs))

-- ---- a definition more

drop_push : {A : Type 0} (n : ℕ) (xs ys : List A) → n ≤ length xs → drop n (xs ++ ys) ≡ drop n xs ++ ys
drop_push zero xs ys h = refl
drop_push (suc n) [] ys h = absurd (omega arith)
drop_push (suc n) (x ∷ xs) ys h = drop_push n xs ys (omega arith)

-- what is found among those behind the given ones, once there is one more
pub found_push : (name : List ℕ) (given : ℕ) (defs : List TagDef) (def : TagDef) → given ≤ length defs →
    position_from (is_named name) given (drop given (defs ++ def ∷ []))
    ≡ option_or (position_from (is_named name) given (drop given defs)) (if is_named name def then Some (length defs) else None)
found_push name given defs def h =
    let along : given + length (drop given defs) ≡ length defs = omega (arith, length-drop given defs) in
    ap (position_from (is_named name) given) (drop_push given defs (def ∷ []) h)
    ∙ from_append (is_named name) given (drop given defs) (def ∷ [])
    ∙ ap (λ n. option_or (position_from (is_named name) given (drop given defs)) (if is_named name def then Some n else None)) along

pub one_more : (defs : List TagDef) (def : TagDef) (given : ℕ) → given ≤ length defs → given ≤ length (defs ++ def ∷ [])
one_more defs def given h = omega (arith, length-append defs (def ∷ []))

none_else : (r : Option ℕ) → option_or r None ≡ r
none_else None = refl
none_else (Some n) = refl

-- one whose tag isn't new changes nothing
unchanged : (defs : List TagDef) (given : ℕ) (added : Numbers) (def : TagDef) → AreFound defs given added → is_new added def.name ≡ false →
    AreFound (defs ++ def ∷ []) given added
unchanged defs given added def are why = record {
  found = λ name. by name (is_named name def) refl ∙ sym (found_push name given defs def are.within);
  within = one_more defs def given are.within;
}
  where
    there : (r : Option ℕ) (n : ℕ) → is_none r ≡ false → r ≡ option_or r (Some n)
    there (Some m) n e = refl
    there None n e = cc

    word : (name : List ℕ) (a b c : Bool) → bytes_eq def.name [] ≡ a → bytes_eq def.name name ≡ b → is_none (number_at added def.name) ≡ c →
        (not a && b) ≡ true → (not a && c) ≡ false → is_none (number_at added name) ≡ false
    word name true b c p q r e w = cc
    word name false false c p q r e w = cc
    word name false true true p q r e w = cc
    word name false true false p q r e w = subst (λ n. is_none (number_at added n) ≡ false) (bytes_eq_same def.name name q) r

    by : (name : List ℕ) (b : Bool) → is_named name def ≡ b →
        number_at added name ≡ option_or (position_from (is_named name) given (drop given defs)) (if is_named name def then Some (length defs) else None)
    by name false p = rw p (are.found name ∙ sym (none_else _))
    by name true p =
        rw p (there (number_at added name) (length defs)
        (word name (bytes_eq def.name []) (bytes_eq def.name name) (is_none (number_at added def.name)) refl refl refl p why)
        ∙ ap (λ r. option_or r (Some (length defs))) (are.found name))

pub unchanged_or_full : (defs new : List TagDef) (given : ℕ) (added : Numbers) (def : TagDef) (r : Result ℕ NoMemory) → AreFound defs given added →
    is_new added def.name ≡ false → IfOk r (λ n. new ≡ defs ++ def ∷ []) → OnErr r (new ≡ defs) → AreFound new given added
unchanged_or_full defs new given added def (Ok n) are why ok err = subst (λ ds. AreFound ds given added) (sym ok) (unchanged defs given added def are why)
unchanged_or_full defs new given added def (Err e) are why ok err = subst (λ ds. AreFound ds given added) (sym err) are

-- one with a new tag is found under it
pub added_last : (defs : List TagDef) (given : ℕ) (old room new : Numbers) (def : TagDef) → AreFound defs given old → is_new old def.name ≡ true →
    SameNumbers old room → SetsNumber room new def.name (Some (length defs)) → AreFound (defs ++ def ∷ []) given new
added_last defs given old room new def are why same sets = record {
  found = λ name.
      sets name ∙ ap (λ r. if bytes_eq def.name name then Some (length defs) else r) (same name)
      ∙ by name (bytes_eq def.name []) (bytes_eq def.name name) refl refl why ∙ sym (found_push name given defs def are.within);
  within = one_more defs def given are.within;
}
  where
    nothing : (r : Option ℕ) → is_none r ≡ true → r ≡ None
    nothing None e = refl
    nothing (Some n) e = cc

    by : (name : List ℕ) (a b : Bool) → bytes_eq def.name [] ≡ a → bytes_eq def.name name ≡ b → (not a && is_none (number_at old def.name)) ≡ true →
        (if b then Some (length defs) else number_at old name)
        ≡ option_or (position_from (is_named name) given (drop given defs)) (if (not a && b) then Some (length defs) else None)
    by name true b p q e = cc
    by name false false p q e = are.found name ∙ sym (none_else _)
    by name false true p q e =
        let here : number_at old name ≡ None = nothing (number_at old name) (subst (λ n. is_none (number_at old n) ≡ true) (bytes_eq_same def.name name q) e) in
        ap (λ r. option_or r (Some (length defs))) (sym here ∙ are.found name)

pub the_last : (defs new : List TagDef) (def found : TagDef) (n : ℕ) → n ≡ length defs → new ≡ defs ++ def ∷ [] →
    Some found ≡ slice_get new n → found ≡ def
the_last defs new def found n e f g = let h : Some found ≡ Some def = g ∙ rw (f, e) (slice_get-push_same def defs) in cc

pub no_last : (defs new : List TagDef) (def : TagDef) (n : ℕ) → n ≡ length defs → new ≡ defs ++ def ∷ [] → None ≡ slice_get new n → ⊥
no_last defs new def n e f g = let h : None ≡ Some def = g ∙ rw (f, e) (slice_get-push_same def defs) in cc

-- ---- a definition in another's place

pub kept_found : (defs : List TagDef) (given : ℕ) (added : Numbers) (i : ℕ) (def : TagDef) → AreFound defs given added →
    IsSomeAnd (slice_get defs i) (λ old. old.name ≡ def.name) → AreFound (slice_set defs i def) given added
kept_found defs given added i def are h = record {
  found = λ name. are.found name ∙ sym (found_set name given defs i def h);
  within = omega (arith, are.within, length-set defs i def);
}

-- ---- one behind another

module _ {A : Type 0} (p : A → Bool) where
  step_from : (k n given : ℕ) (xs : List A) → n < given → given ≤ length xs →
      position_from p k (drop n (take given xs))
      ≡ (if option_map_or p (slice_get xs n) false then Some k else position_from p (k + 1) (drop (suc n) (take given xs)))
  step_from k n zero xs h w = absurd (omega arith)
  step_from k n (suc given) [] h w = absurd (omega arith)
  step_from k zero (suc given) (x ∷ xs) h w = refl
  step_from k (suc n) (suc given) (x ∷ xs) h w = step_from k n given xs (omega arith) (omega arith)

  pub step : (n given : ℕ) (xs : List A) → n < given → given ≤ length xs →
      position_from p n (drop n (take given xs))
      ≡ (if option_map_or p (slice_get xs n) false then Some n else position_from p (n + 1) (drop (n + 1) (take given xs)))
  step n given xs h w =
      step_from n n given xs h w
      ∙ ap (λ m. if option_map_or p (slice_get xs n) false then Some n else position_from p (n + 1) (drop m (take given xs))) (sym (add-one n))

  pub found_first : (n : ℕ) (xs : List A) (k : ℕ) → n ≤ length xs → Some k ≡ position_from p 0 (take n xs) → Some k ≡ position p xs
  found_first n xs k within e = sym (position_parts p n xs within ∙ ap (λ r. option_or r (position_from p n (drop n xs))) (sym e))

  pub found_behind : (n : ℕ) (xs : List A) → n ≤ length xs → None ≡ position_from p 0 (take n xs) → position_from p n (drop n xs) ≡ position p xs
  found_behind n xs within e = sym (position_parts p n xs within ∙ ap (λ r. option_or r (position_from p n (drop n xs))) (sym e))
