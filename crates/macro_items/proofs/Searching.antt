-- Tests and searches of an ascending list of names.
use Rattle.std.proofs.Common.{◌≡◌, ℕ, zero, suc, ◌≤◌, ◌<◌, Bool, false, ◌&&◌, List, [], ◌∷◌, ◌++◌, length, get_or, take, drop, Result, Ok, Err, inl, inr, refl, sym, ap, ◌∙◌, arith}
use Rattle.std.specs.Borrow.{Bor}
use Rattle.std.specs.Bool.{Decides}
use Rattle.std.specs.Cmp.Lexicographic.{pointwise, texts_ties}
use Rattle.std.specs.List.{AllWithin}
use Rattle.std.specs.List.Sorted.{IsStrictlySortedBy, IsNonDecreasingBy, IsBinarySearchResult, IsSearchInRange}
use Rattle.std.specs.Ordering.{is_eq, ordering_index, ordering_reverse}
use Rattle.std.specs.Result.{is_ok}
use Rattle.std.specs.declared.cmp.Ordering.{Ordering}
use Rattle.std.specs.declared.cmp.Ordering.TheVariants.{Less, Equal, Greater}
use Rattle.std.proofs.lemmas.Bool.{cases_lt}
use Rattle.std.proofs.lemmas.Cmp.{nat_list_cmp_total}
use Rattle.std.proofs.lemmas.List.{get_or-map, length-map}
use Rattle.std.proofs.lemmas.List.Folds.{list_any_at, list_any_none}
use Rattle.std.proofs.lemmas.Map.Keys.{Less-from_sorted}
use Rattle.std.proofs.lemmas.Slice.Eq.{slice_eq-Decides, bytes_eq-Decides}
use Rattle.macro_meaning.specs.Macros.{Name, same_name, has}
use Rattle.macro_items.specs.HideSets.{names, by_bytes}
use Rattle.macro_items.proofs.Merging.{merge}

-- ---- two lists

by_names : (a b : List (Bor (List ℕ))) → pointwise (λ x y. same_name x.now y.now) a b ≡ pointwise same_name (names a) (names b)
by_names [] [] = refl
by_names [] (y ∷ b) = refl
by_names (x ∷ a) [] = refl
by_names (x ∷ a) (y ∷ b) = λ i. same_name x.now y.now && by_names a b i

pub are_same : (a b : List (Bor (List ℕ))) (r : Bool) → r ≡ pointwise (λ x y. same_name x.now y.now) a b → Decides r (names a ≡ names b)
are_same a b r e = slice_eq-Decides bytes_eq-Decides (names a) (names b) r (e ∙ by_names a b)

-- ---- a list and a name

most : (o : Ordering) → ordering_index o ≤ 2
most Less = omega arith
most Equal = omega arith
most Greater = omega arith

turned : (x y : Name) (o : Ordering) → by_bytes x y ≡ o → by_bytes y x ≡ ordering_reverse o
turned x y o e = nat_list_cmp_total.antisymm y x ∙ ap ordering_reverse e

rises_to : (x y n : Name) (o : Ordering) → by_bytes x y ≡ Less → by_bytes y n ≡ o → ordering_index (by_bytes x n) ≤ ordering_index o
rises_to x y n Less lt e = rw (nat_list_cmp_total.trans x y n lt e) (omega arith)
rises_to x y n Equal lt e =
    let f : by_bytes n x ≡ Greater = sym (nat_list_cmp_total.congr y n x e) ∙ turned x y Less lt in
    rw (turned n x Greater f) (omega arith)
rises_to x y n Greater lt e = most (by_bytes x n)

differs : (n x : Name) (o : Ordering) → by_bytes x n ≡ o → is_eq o ≡ false → same_name n x ≡ false
differs n x Less e f = texts_ties n x ∙ ap is_eq (turned x n Less e)
differs n x Equal e f = cc
differs n x Greater e f = texts_ties n x ∙ ap is_eq (turned x n Greater e)

nameless : Bor (List ℕ)
nameless = record { ref_ptr = (0, 0); now = [] }

at : (set : List (Bor (List ℕ))) (k : ℕ) (d : Name) → k < length set → get_or (names set) k d ≡ (get_or set k nameless).now
at set k d lt = get_or-map (λ (r : Bor (List ℕ)). r.now) set k nameless d lt

module _ (n : Name) where
  absent : (set : List (Bor (List ℕ))) (i : ℕ) → AllWithin (λ r. by_bytes r.now n ≡ Less) set 0 i
      → AllWithin (λ r. by_bytes r.now n ≡ Greater) set i (length set)
      → has (names set) n ≡ false
  absent set i low high =
      list_any_none (same_name n) (names set)
      (λ k d lt. rw (at set k d (omega (arith, length-map set (λ (r : Bor (List ℕ)). r.now))))
      (other k (omega (arith, length-map set (λ (r : Bor (List ℕ)). r.now))))) where
        other : (k : ℕ) → k < length set → same_name n (get_or set k nameless).now ≡ false
        other k lt =
            elim (cases_lt k i) [
              | inl below ↦ differs n _ Less (low k nameless (omega arith) below) refl
              | inr above ↦ differs n _ Greater
                  (high k nameless above lt) refl
            ]

  placed : (r : Bor (List ℕ)) → r.now ≡ n → (set : List (Bor (List ℕ))) (i : ℕ) → i ≤ length set
      → AllWithin (λ s. by_bytes s.now n ≡ Less) set 0 i → AllWithin (λ s. by_bytes s.now n ≡ Greater) set i (length set)
      → names (take i set ++ r ∷ drop i set) ≡ merge (n ∷ []) (names set)
  placed r e [] zero le low high = ap (λ (m : Name). m ∷ []) e
  placed r e [] (suc i) le low high = absurd (omega arith)
  placed r e (x ∷ xs) zero le low high =
      rw (turned x.now n Greater (high 0 nameless (omega arith) (omega arith))) (ap (λ (m : Name). m ∷ names (x ∷ xs)) e)
  placed r e (x ∷ xs) (suc i) le low high =
      rw (turned x.now n Less (low 0 nameless (omega arith) (omega arith)))
      (ap (λ (ms : List Name). x.now ∷ ms) (placed r e xs i (omega arith) (λ k d a b. low (suc k) d (omega arith) (omega arith))
      (λ k d a b. high (suc k) d (omega arith) (omega arith))))

  module _ (set : List (Bor (List ℕ))) (up : IsStrictlySortedBy by_bytes (names set)) where
    ascends : (i j : ℕ) (d : Bor (List ℕ)) → i < j → j < length set → by_bytes (get_or set i d).now (get_or set j d).now ≡ Less
    ascends i j d below lt =
        rw (
          ← get_or-map (λ (r : Bor (List ℕ)). r.now) set i d d.now (omega arith),
          ← get_or-map (λ (r : Bor (List ℕ)). r.now) set j d d.now lt,
        )
        (Less-from_sorted by_bytes (names set) i j d.now up below (omega (arith, length-map set (λ (r : Bor (List ℕ)). r.now))))

    rising : IsNonDecreasingBy (λ r. ordering_index (by_bytes r.now n)) set
    rising i j d le lt = elim
        (cases_lt i j) [
          | inl below ↦ rises_to _ _ n _
              (ascends i j d below lt) refl
          | inr above ↦ (let same : i ≡ j = omega arith in
              omega (arith, ap (λ (k : ℕ). ordering_index (by_bytes (get_or set k d).now n)) same))
        ]

    pub found : (r : Result ℕ ℕ) → IsSearchInRange r (length set) → IsBinarySearchResult (λ y. by_bytes y.now n) set r
        → is_ok r ≡ has (names set) n
    found (Ok k) lt h = sym
        (list_any_at (same_name n) (names set) k [] (omega (arith, length-map set (λ (r : Bor (List ℕ)). r.now)))
        (rw (at set k [] lt) (texts_ties n (get_or set k nameless).now ∙ ap is_eq (turned _ n Equal (h nameless)))))
    found (Err i) le h = let parted = h rising in sym (absent set i parted.0 parted.1)

    -- where the name was not found, it goes into its place
    pub inserted : (r : Bor (List ℕ)) → r.now ≡ n → (new : List (Bor (List ℕ))) (i : ℕ) → i ≤ length set
        → IsBinarySearchResult (λ y. by_bytes y.now n) set (Err i)
        → new ≡ take i set ++ r ∷ drop i set → names new ≡ merge (n ∷ []) (names set)
    inserted r e new i le h is = let parted = h rising in ap names is ∙ placed r e set i le parted.0 parted.1
