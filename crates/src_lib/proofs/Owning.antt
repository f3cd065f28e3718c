-- Blocks of entries in the order of their keys.
use Rattle.std.proofs.Common.{◌≡◌, ◌≢◌, ℕ, ◌-◌, ◌<◌, ◌≤◌, Bool, true, false, not, ltb, List, [], ◌∷◌, filter, find, Some, refl, sym, ap, arith, ⊎_elim, Ordering, Less, Equal, Greater}
use Rattle.std.specs.Prelude.{◌==◌, cond, if◌then◌else◌}
use Rattle.std.specs.BTreeMap.{insert_entry, is_at}
use Rattle.std.specs.List.{AllByRecursion}
use Rattle.std.specs.List.Sorted.{IsStrictlySortedBy}
use Rattle.std.specs.Map.{keys_of, lookup, remove_entry}
use Rattle.std.specs.Option.{option_map}
use Rattle.std.specs.Ordering.{is_eq, match_ordering, nat_cmp}
use Rattle.std.proofs.lemmas.Bool.{cases_eq, eq-eqb, le-ltb, lt-ltb, ltb-true, eqb-true, ne_eqb}
use Rattle.library_meaning.specs.Table.{no_limit}
use Rattle.object_meaning.specs.Allocations.{block_place}
use Rattle.src_lib.specs.Owners.{AreBelow, AreNumbers, block_of, blocks_of}

-- a key is an object's where its object is that
same_test : (o e : ℕ) → o ≤ no_limit → e ≤ no_limit → is_eq (nat_cmp (no_limit - o) e) ≡ (no_limit - e == o)
same_test o e l m = ⊎_elim
    (λ (h : no_limit - o ≡ e). rw (le-ltb (no_limit - o) e (omega (arith, h)), eq-eqb (no_limit - o) e h, eq-eqb (no_limit - e) o (omega (arith, h, l))) refl)
    (λ (n : no_limit - o ≢ e). rw (ne_eqb (no_limit - o) e n, ne_eqb (no_limit - e) o (λ k. n (omega (arith, k, l, m)))) (other (no_limit - o) e))
    (cases_eq (no_limit - o) e)
  where
    other : (x y : ℕ) → is_eq (cond (ltb x y) Less (cond false Equal Greater)) ≡ false
    other x y = go (ltb x y)
      where
        go : (t : Bool) → is_eq (cond t Less (cond false Equal Greater)) ≡ false
        go true = refl
        go false = refl

pub place_is : (es : List (ℕ × ℕ)) (o : ℕ) → AreNumbers es → o ≤ no_limit
    → lookup (is_at (nat_cmp (no_limit - o))) es ≡ block_place (blocks_of es) o
place_is [] o h l = refl
place_is (e ∷ es) o h l = rw (same_test o e.0 l h.0) (go (no_limit - e.0 == o) (place_is es o h.1 l))
  where
    go : (t : Bool) → lookup (is_at (nat_cmp (no_limit - o))) es ≡ block_place (blocks_of es) o
        → cond t (Some e.1) (lookup (is_at (nat_cmp (no_limit - o))) es)
        ≡ option_map (λ block. block.0) (if t then Some (block_of e) else find (λ block. block.1 == o) (blocks_of es))
    go true k = refl
    go false k = k

-- the newest object comes first
pub pushed_is : (es : List (ℕ × ℕ)) (place o : ℕ) → AreNumbers es → o ≤ no_limit → AreBelow o (blocks_of es)
    → blocks_of (insert_entry nat_cmp es (no_limit - o) place) ≡ (place, o) ∷ blocks_of es
pushed_is [] place o h l b = ap (λ n. (place, n) ∷ []) (let e : no_limit - (no_limit - o) ≡ o = omega (arith, l) in e)
pushed_is (e ∷ es) place o h l b =
    let first = b.0 in
    let number = h.0 in
    rw (lt-ltb (no_limit - o) e.0 (omega (arith, first, number)))
    (ap (λ n. (place, n) ∷ blocks_of (e ∷ es)) (let f : no_limit - (no_limit - o) ≡ o = omega (arith, l) in f))

pub pushed_numbers : (es : List (ℕ × ℕ)) (place o : ℕ) → AreNumbers es → AreNumbers (insert_entry nat_cmp es (no_limit - o) place)
pushed_numbers [] place o h = (omega arith, tt)
pushed_numbers (e ∷ es) place o h = go (nat_cmp (no_limit - o) e.0) (pushed_numbers es place o h.1)
  where
    go : (c : Ordering) → AreNumbers (insert_entry nat_cmp es (no_limit - o) place)
        → AreNumbers (match_ordering c ((no_limit - o, place) ∷ e ∷ es) ((e.0, place) ∷ es) (e ∷ insert_entry nat_cmp es (no_limit - o) place))
    go Less k = (omega arith, h)
    go Equal k = (h.0, h.1)
    go Greater k = (h.0, k)

-- no other entry is of the object
none_left : (es : List (ℕ × ℕ)) (k o : ℕ) → AreNumbers es → o ≤ no_limit → k ≡ no_limit - o → AllByRecursion (λ y. nat_cmp k y ≡ Less) (keys_of es)
    → filter (λ block. not (block.1 == o)) (blocks_of es) ≡ blocks_of es
none_left [] k o h l e s = refl
none_left (x ∷ es) k o h l e s =
    let number = h.0 in
    let above = less_by k x.0 s.0 in
    rw (ne_eqb (no_limit - x.0) o (λ f. absurd (omega (arith, f, e, number, above, l)))) (ap (λ bs. block_of x ∷ bs) (none_left es k o h.1 l e s.1))
  where
    less_by : (a b : ℕ) → nat_cmp a b ≡ Less → a < b
    less_by a b f = go (ltb a b) refl f
      where
        go : (t : Bool) → ltb a b ≡ t → cond t Less (cond (a == b) Equal Greater) ≡ Less → a < b
        go true g f = ltb-true a b g
        go false g f = absurd (second (a == b) f)
          where
            second : (t : Bool) → cond t Equal Greater ≡ Less → ⊥
            second true f = cc
            second false f = cc

pub removed_is : (es : List (ℕ × ℕ)) (o : ℕ) → AreNumbers es → o ≤ no_limit → IsStrictlySortedBy nat_cmp (keys_of es)
    → blocks_of (remove_entry (is_at (nat_cmp (no_limit - o))) es) ≡ filter (λ block. not (block.1 == o)) (blocks_of es)
unfolding IsStrictlySortedBy
removed_is [] o h l s = refl
removed_is (e ∷ es) o h l s =
    rw (same_test o e.0 l h.0) (go (no_limit - e.0 == o) refl (removed_is es o h.1 l s.1))
  where
    go : (t : Bool) → (no_limit - e.0 == o) ≡ t
        → blocks_of (remove_entry (is_at (nat_cmp (no_limit - o))) es) ≡ filter (λ block. not (block.1 == o)) (blocks_of es)
        → blocks_of (cond t es (e ∷ remove_entry (is_at (nat_cmp (no_limit - o))) es))
        ≡ (if not t then block_of e ∷ filter (λ block. not (block.1 == o)) (blocks_of es) else filter (λ block. not (block.1 == o)) (blocks_of es))
    go true f k = (let number = h.0 in let same = eqb-true (no_limit - e.0) o f in
        sym (none_left es e.0 o h.1 l (omega (arith, number, same)) s.0))
    go false f k = ap (λ bs. block_of e ∷ bs) k

pub removed_numbers : (test : ℕ → Bool) (es : List (ℕ × ℕ)) → AreNumbers es → AreNumbers (remove_entry test es)
removed_numbers test [] h = tt
removed_numbers test (e ∷ es) h = go (test e.0) (removed_numbers test es h.1)
  where
    go : (t : Bool) → AreNumbers (remove_entry test es) → AreNumbers (cond t es (e ∷ remove_entry test es))
    go true k = h.1
    go false k = (h.0, k)

-- objects stay below a number
pub kept_below : (n : ℕ) (p : ℕ × ℕ → Bool) (blocks : List (ℕ × ℕ)) → AreBelow n blocks → AreBelow n (filter p blocks)
kept_below n p [] h = tt
kept_below n p (b ∷ bs) h = go (p b) (kept_below n p bs h.1)
  where
    go : (t : Bool) → AreBelow n (filter p bs) → AreBelow n (if t then b ∷ filter p bs else filter p bs)
    go true k = (h.0, k)
    go false k = k
