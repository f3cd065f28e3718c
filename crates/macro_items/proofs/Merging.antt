-- Walks along two ascending lists of names.
use Rattle.std.proofs.Common.{◌≡◌, ℕ, ◌+◌, ◌≤◌, ◌<◌, Bool, true, false, ◌||◌, List, [], ◌∷◌, ◌++◌, length, get_or, drop, refl, sym, ap, ◌∙◌, add-one, drop-cons, append_assoc}
use Rattle.std.specs.Borrow.{Bor}
use Rattle.std.specs.Cmp.Lexicographic.{texts_ties}
use Rattle.std.specs.List.{list_any, filter}
use Rattle.std.specs.List.Sorted.{IsStrictlySortedBy}
use Rattle.std.specs.Ordering.{eq_by_cmp}
use Rattle.std.specs.Set.{is_member, sorted_merge}
use Rattle.std.specs.declared.cmp.Ordering.TheVariants.{Less, Equal, Greater}
use Rattle.std.proofs.lemmas.Cmp.{nat_list_cmp_total, nat_list_eq_equiv, eq_by_cmp_equiv}
use Rattle.std.proofs.lemmas.List.{append-nil, map-append, drop_all}
use Rattle.std.proofs.lemmas.List.Kept.{IsStrictlySortedBy-filter}
use Rattle.std.proofs.lemmas.Map.Made.{is_member-filter}
use Rattle.std.proofs.lemmas.Map.Steps.{list_any_congr}
use Rattle.std_collections.proofs.SetLists.{filter_takes, filter_skips}
use Rattle.std_collections.proofs.SortedSets.{merge_is_union, sorted_merged, sorted_rest, lacks_Less, has-Equal, skip_Greater, skip_Equal, none_in_empty}
use Rattle.c_tokens.specs.declared.TokenKind.{TokenKind}
use Rattle.c_tokens.specs.declared.TokenKind.TheVariants.{Name as Named}
use Rattle.macro_meaning.specs.Macros.{Name, same_name, has, HideSet}
use Rattle.macro_meaning.specs.Turns.{union, intersection, with_name}
use Rattle.macro_items.specs.HideSets.{names, by_bytes}

abbrev pub in_names : List Name → Name → Bool
in_names = is_member (eq_by_cmp by_bytes)

abbrev pub merge : List Name → List Name → List Name
merge = sorted_merge by_bytes true

pub dropped : (set : List (Bor (List ℕ))) (i : ℕ) (d : Bor (List ℕ)) → i < length set
    → names (drop i set) ≡ (get_or set i d).now ∷ names (drop (i + 1) set)
dropped set i d lt = rw (add-one, drop-cons set i d lt) refl

pub pushed : (set : List (Bor (List ℕ))) (r : Bor (List ℕ)) → names (set ++ r ∷ []) ≡ names set ++ r.now ∷ []
pushed set r = map-append (λ (s : Bor (List ℕ)). s.now) set (r ∷ [])

nameless : Bor (List ℕ)
nameless = record { ref_ptr = (0, 0); now = [] }

pub rest_ascends : (set : List (Bor (List ℕ))) (i : ℕ) → i < length set → IsStrictlySortedBy by_bytes (names (drop i set))
    → IsStrictlySortedBy by_bytes (names (drop (i + 1) set))
rest_ascends set i lt s =
    sorted_rest by_bytes (names (drop i set)) (names (drop (i + 1) set)) (get_or set i nameless).now (dropped set i nameless lt) s

-- ---- a set's test is membership by the order

by_order : has ≡ in_names
by_order = λ i set name. list_any (λ other. texts_ties name other i) set

pub has_merged : (xs ys : List Name) → has (merge xs ys) ≡ union (has xs) (has ys)
has_merged xs ys = rw by_order (λ i name. merge_is_union nat_list_cmp_total xs ys name i)

pub has_shared : (xs ys : List Name) → has (filter (in_names ys) xs) ≡ intersection (has xs) (has ys)
has_shared xs ys =
    let laws = eq_by_cmp_equiv nat_list_cmp_total in
    rw by_order (λ i name. is_member-filter laws (in_names ys) name (λ x e. list_any_congr laws name x ys e) xs i)

-- ---- the calls

module _ (a b new : List (Bor (List ℕ))) where
  pub merged_ascends : names new ≡ merge (names a) (names b) → IsStrictlySortedBy by_bytes (names a) → IsStrictlySortedBy by_bytes (names b)
      → IsStrictlySortedBy by_bytes (names new)
  merged_ascends e s t = rw e (sorted_merged nat_list_cmp_total true (names a) (names b) s t)

  pub shared_ascends : names new ≡ filter (in_names (names b)) (names a) → IsStrictlySortedBy by_bytes (names a)
      → IsStrictlySortedBy by_bytes (names new)
  shared_ascends e s = rw e (IsStrictlySortedBy-filter by_bytes (in_names (names b)) (names a) s)

  module _ (v w : List Name) (see_v : names a ≡ v) (see_w : names b ≡ w) where
    pub merged_is : names new ≡ merge (names a) (names b) → has (names new) ≡ union (has v) (has w)
    merged_is e = rw (e, see_v, see_w) (has_merged v w)

    pub shared_is : names new ≡ filter (in_names (names b)) (names a) → has (names new) ≡ intersection (has v) (has w)
    shared_is e = rw (e, see_v, see_w) (has_shared v w)

pub one_ascends : (n : Name) → IsStrictlySortedBy by_bytes (n ∷ [])
unfolding IsStrictlySortedBy
one_ascends n = (tt, tt)

pub none_ascends : (set : List (Bor (List ℕ))) → set ≡ [] → IsStrictlySortedBy by_bytes (names set)
unfolding IsStrictlySortedBy
none_ascends set e = rw e tt

in_twice : (n other : Name) (set : List Name) (same is : Bool) → (same ≡ true → is ≡ true) → is ≡ ((same || false) || is)
in_twice n other set true is f = f refl
in_twice n other set false is f = refl

-- a name more is none more where the set has it
pub has_it : (n : Name) (set : List Name) → true ≡ has set n → has set ≡ union (has (n ∷ [])) (has set)
has_it n set e = λ i other. in_twice n other set (same_name other n) (has set other)
    (λ same. list_any_congr nat_list_eq_equiv other n set same ∙ sym e) i

within : (a b : Bool) → (a || (b || a)) ≡ (b || a)
within true true = refl
within true false = refl
within false b = refl

twice : (a : Bool) → (a || a) ≡ a
twice true = refl
twice false = refl

with_more : (old : HideSet) (kind : TokenKind) → union old (with_name kind old) ≡ with_name kind old
with_more old (Named n) = λ i other. within (old other) (same_name n other) i
with_more old _ = λ i other. twice (old other) i

-- a set is within the one that has a name more
pub grown : (kind : TokenKind) (old new : List Name) → has new ≡ with_name kind (has old) → union (has old) (has new) ≡ has new
grown kind old new e = rw e (with_more (has old) kind)

-- ---- a merge, where `front` was written and xs and ys are left

merge_nothing : (xs : List Name) → merge xs [] ≡ xs
merge_nothing [] = refl
merge_nothing (x ∷ xs) = refl

module _ (front done : List (Bor (List ℕ))) (all : List Name) (i j : ℕ) (a b : List (Bor (List ℕ)))
    (e : done ≡ (front ++ drop i a) ++ drop j b)
    (so_far : names front ++ merge (names (drop i a)) (names (drop j b)) ≡ all) where
  pub first_over : length a ≤ i → names done ≡ all
  first_over le =
      let none : drop i a ≡ [] = drop_all i a le in
      let h = rw none at so_far in rw (e, none, append-nil, map-append) h

  pub second_over : length b ≤ j → names done ≡ all
  second_over le =
      let none : drop j b ≡ [] = drop_all j b le in
      let h = rw (none, merge_nothing) at so_far in rw (e, none, append-nil, map-append) h

-- ---- what two lists share, where `front` was written and xs and ys are left

module _ (front all xs ys us vs : List Name) (x y : Name) (a : xs ≡ x ∷ us) (b : ys ≡ y ∷ vs) (s : IsStrictlySortedBy by_bytes xs)
    (t : IsStrictlySortedBy by_bytes ys)
    (so_far : front ++ filter (in_names ys) xs ≡ all) where
  pub skips_first : Less ≡ by_bytes x y → front ++ filter (in_names ys) us ≡ all
  skips_first k = ap (λ (ns : List Name). front ++ ns)
      (sym (filter_skips (in_names ys) xs us x a (lacks_Less nat_list_cmp_total xs ys us vs x y a b t (sym k)))) ∙ so_far

  pub takes_both : Equal ≡ by_bytes x y → (front ++ x ∷ []) ++ filter (in_names vs) us ≡ all
  takes_both k =
      let one : filter (in_names ys) xs ≡ x ∷ filter (in_names vs) us =
      filter_takes (in_names ys) xs us x a (has-Equal nat_list_cmp_total xs ys us vs x y a b (sym k))
      ∙ ap (λ (ns : List Name). x ∷ ns) (skip_Equal nat_list_cmp_total xs ys us vs x y a b (λ u. u) s (sym k)) in
      rw append_assoc (ap (λ (ns : List Name). front ++ ns) (sym one) ∙ so_far)

  pub skips_second : Greater ≡ by_bytes x y → front ++ filter (in_names vs) xs ≡ all
  skips_second k = ap (λ (ns : List Name). front ++ ns) (sym (skip_Greater nat_list_cmp_total xs ys us vs x y a b (λ u. u) s (sym k)))
      ∙ so_far

module _ (front a b : List (Bor (List ℕ))) (all : List Name) (i j : ℕ)
    (so_far : names front ++ filter (in_names (names (drop j b))) (names (drop i a)) ≡ all) where
  pub first_done : length a ≤ i → names front ≡ all
  first_done le = let h = rw (drop_all i a le, append-nil) at so_far in h

  pub second_done : length b ≤ j → names front ≡ all
  second_done le =
      let none : filter (in_names (names (drop j b))) (names (drop i a)) ≡ [] = none_in_empty nat_list_cmp_total (names (drop i a))
      (names (drop j b)) (ap names (drop_all j b le)) in
      let h = rw (none, append-nil) at so_far in h
