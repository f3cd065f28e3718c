-- The last number of a name in a list of names that grows at its end.
use Rattle.std.proofs.Common.{◌≡◌, ℕ, suc, ◌+◌, List, [], ◌∷◌, ◌++◌, length, Bool, true, false, refl, sym, ap, ◌∙◌, arith, append_assoc}
use Rattle.std.proofs.lemmas.List.{append-nil}
use Rattle.std.specs.Prelude.{Option, Some, None, is_some, option_and_then, if◌then◌else◌, ◌||◌, slice_get}
use Rattle.std.specs.Option.{option_or, option_map}
use Rattle.std.specs.List.{list_any}
use Rattle.std.specs.Str.{bytes_eq}
use Rattle.elab_meaning.specs.declared.names.NameUse.{NameUse}
use Rattle.elab_meaning.specs.Scope.{last_from}
use Rattle.elab_scope.specs.Names.{last_number, last_number_from, hidden_behind, names_of, values_of}

-- ---- one more name

or_none : (b : Bool) (k : ℕ) → option_or None (if b then Some k else None) ≡ (if b then Some (k + 0) else None)
or_none true k = ap Some (omega arith)
or_none false k = refl

or_last : (b c : Bool) (k n : ℕ) (r : Option ℕ) →
    option_or (if b then Some (k + 1 + n) else r) (if c then Some k else None)
    ≡ (if b then Some (k + suc n) else option_or r (if c then Some k else None))
or_last true c k n r = ap Some (omega arith)
or_last false c k n r = refl

last_from_push : (k : ℕ) (name : List ℕ) (ns : List (List ℕ)) (n : List ℕ) →
    last_number_from k name (ns ++ n ∷ []) ≡ (if bytes_eq n name then Some (k + length ns) else last_number_from k name ns)
last_from_push k name [] n = or_none (bytes_eq n name) k
last_from_push k name (m ∷ ns) n =
    rw (last_from_push (k + 1) name ns n) (or_last (bytes_eq n name) (bytes_eq m name) k (length ns) (last_number_from (k + 1) name ns))

zero_first : (b : Bool) (n : ℕ) (r : Option ℕ) → (if b then Some (0 + n) else r) ≡ (if b then Some n else r)
zero_first true n r = ap Some (omega arith)
zero_first false n r = refl

pub last_push : (name : List ℕ) (ns : List (List ℕ)) (n : List ℕ) →
    last_number name (ns ++ n ∷ []) ≡ (if bytes_eq n name then Some (length ns) else last_number name ns)
last_push name ns n = last_from_push 0 name ns n ∙ zero_first (bytes_eq n name) (length ns) _

pub hidden_push : (before ns : List (List ℕ)) (n : List ℕ) →
    hidden_behind before (ns ++ n ∷ []) ≡ hidden_behind before ns ++ last_number n (before ++ ns) ∷ []
hidden_push before [] n = ap (λ b. last_number n b ∷ []) (sym (append-nil before))
hidden_push before (m ∷ ns) n =
    ap (λ l. last_number m before ∷ l)
    (hidden_push (before ++ m ∷ []) ns n ∙ ap (λ b. hidden_behind (before ++ m ∷ []) ns ++ last_number n b ∷ []) (append_assoc before (m ∷ []) ns))

-- ---- what a name names

or_numbers : {A : Type 0} (r : Option (ℕ × A)) (b : Bool) (x : ℕ × A) →
    option_map (λ a. a.0) (option_or r (if b then Some x else None)) ≡ option_or (option_map (λ a. a.0) r) (if b then Some x.0 else None)
or_numbers None true x = refl
or_numbers None false x = refl
or_numbers (Some r) b x = refl

pub number_of_last : (k : ℕ) (name : List ℕ) (xs : List (List ℕ × NameUse)) →
    option_map (λ a. a.0) (last_from k name xs) ≡ last_number_from k name (names_of xs)
number_of_last k name [] = refl
number_of_last k name (a ∷ xs) =
    or_numbers (last_from (k + 1) name xs) (bytes_eq a.0 name) (k, a.1)
    ∙ ap (λ r. option_or r (if bytes_eq a.0 name then Some k else None)) (number_of_last (k + 1) name xs)

-- ---- whether a name is there

or_any : (r : Option ℕ) (b : Bool) (k : ℕ) → is_some (option_or r (if b then Some k else None)) ≡ (b || is_some r)
or_any None true k = refl
or_any None false k = refl
or_any (Some r) true k = refl
or_any (Some r) false k = refl

pub some_last : (k : ℕ) (name : List ℕ) (ns : List (List ℕ)) → is_some (last_number_from k name ns) ≡ list_any (λ other. bytes_eq other name) ns
some_last k name [] = refl
some_last k name (n ∷ ns) =
    or_any (last_number_from (k + 1) name ns) (bytes_eq n name) k ∙ ap (λ b. bytes_eq n name || b) (some_last (k + 1) name ns)

-- ---- the value under the last number

-- the value that a name names stands at its number
record Stands (k : ℕ) (xs : List (List ℕ × NameUse)) (r : ℕ × NameUse) : Type 0 where
  at : ℕ
  number : r.0 ≡ k + at
  value : slice_get (values_of xs) at ≡ Some r.1

chosen_first : (b : Bool) (k : ℕ) (a : List ℕ × NameUse) (xs : List (List ℕ × NameUse)) (r : ℕ × NameUse) →
    (if b then Some (k, a.1) else None) ≡ Some r → Stands k (a ∷ xs) r
chosen_first true k a xs r e = let p : (k, a.1) ≡ r = cc in record { at = 0; number = rw (← p) (omega arith); value = ap (λ x. Some x.1) p }
chosen_first false k a xs r e = cc

found_value : (k : ℕ) (name : List ℕ) (xs : List (List ℕ × NameUse)) (r : ℕ × NameUse) → last_from k name xs ≡ Some r → Stands k xs r
found_value k name [] r e = cc
found_value k name (a ∷ xs) r e = by (last_from (k + 1) name xs) refl e (found_value (k + 1) name xs r)
  where
    by : (o : Option (ℕ × NameUse)) → last_from (k + 1) name xs ≡ o →
        option_or o (if bytes_eq a.0 name then Some (k, a.1) else None) ≡ Some r → (last_from (k + 1) name xs ≡ Some r → Stands (k + 1) xs r) →
        Stands k (a ∷ xs) r
    by None p q behind = chosen_first (bytes_eq a.0 name) k a xs r q
    by (Some s) p q behind =
        let there = behind (p ∙ q) in
        record { at = suc there.at; number = omega (arith, there.number); value = there.value }

looked_up : (name : List ℕ) (xs : List (List ℕ × NameUse)) →
    last_from 0 name xs ≡ option_and_then (λ n. option_map (λ w. (n, w)) (slice_get (values_of xs) n)) (last_number name (names_of xs))
looked_up name xs = by (last_from 0 name xs) refl
  where
    by : (o : Option (ℕ × NameUse)) → last_from 0 name xs ≡ o →
        o ≡ option_and_then (λ n. option_map (λ w. (n, w)) (slice_get (values_of xs) n)) (last_number name (names_of xs))
    by None p = rw (sym (number_of_last 0 name xs) ∙ ap (option_map (λ a. a.0)) p) refl
    by (Some r) p =
        let s = found_value 0 name xs r p in
        let here : slice_get (values_of xs) r.0 ≡ Some r.1 = ap (slice_get (values_of xs)) (s.number ∙ omega arith) ∙ s.value in
        rw (sym (number_of_last 0 name xs) ∙ ap (option_map (λ a. a.0)) p, here) refl

pub not_named : (name : List ℕ) (xs : List (List ℕ × NameUse)) → None ≡ last_number name (names_of xs) → None ≡ last_from 0 name xs
not_named name xs e = sym (looked_up name xs ∙ ap (option_and_then (λ n. option_map (λ w. (n, w)) (slice_get (values_of xs) n))) (sym e))

pub not_kept : (name : List ℕ) (xs : List (List ℕ × NameUse)) (n : ℕ) → Some n ≡ last_number name (names_of xs) → None ≡ slice_get (values_of xs) n →
    None ≡ last_from 0 name xs
not_kept name xs n e f =
    sym (looked_up name xs ∙ ap (option_and_then (λ n. option_map (λ w. (n, w)) (slice_get (values_of xs) n))) (sym e) ∙ ap (option_map (λ w. (n, w))) (sym f))

pub named : (name : List ℕ) (xs : List (List ℕ × NameUse)) (n : ℕ) (w : NameUse) → Some n ≡ last_number name (names_of xs) →
    Some w ≡ slice_get (values_of xs) n → Some (n, w) ≡ last_from 0 name xs
named name xs n w e f =
    sym (looked_up name xs ∙ ap (option_and_then (λ n. option_map (λ w. (n, w)) (slice_get (values_of xs) n))) (sym e) ∙ ap (option_map (λ w. (n, w))) (sym f))
