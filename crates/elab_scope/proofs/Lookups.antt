-- Numbers under names, among the entries of a map.
use Rattle.std.proofs.Common.{◌≡◌, ℕ, List, [], ◌∷◌, ◌++◌, Bool, true, false, cond, refl, sym, ap, ◌∙◌, true≢false}
use Rattle.std.specs.Prelude.{Option, Some, None, is_some, option_and_then}
use Rattle.std.specs.Map.{lookup, set_value}
use Rattle.std.specs.Str.{bytes_eq}
use Rattle.std.specs.Cmp.Lexicographic.{nat_list_eq_equiv}
use Rattle.std.proofs.lemmas.Slice.Eq.{bytes_eq-Decides}

abbrev pub flat : Option (Option ℕ) → Option ℕ
flat = option_and_then (λ n. n)

pub bytes_eq_same : (a b : List ℕ) → bytes_eq a b ≡ true → a ≡ b
bytes_eq_same a b e = (bytes_eq-Decides a b).0 e

pub bytes_eq_self : (a : List ℕ) → bytes_eq a a ≡ true
bytes_eq_self a = nat_list_eq_equiv.refl a

-- what has a number has room
pub some_room : (r : Option (Option ℕ)) (n : ℕ) → flat r ≡ Some n → is_some r ≡ true
some_room None n e = cc
some_room (Some r) n e = refl

room_last : (b : Bool) → flat (cond b (Some None) None) ≡ None
room_last true = refl
room_last false = refl

under : (b : Bool) (x : Option ℕ) (r s : Option (Option ℕ)) → flat r ≡ flat s → flat (cond b (Some x) r) ≡ flat (cond b (Some x) s)
under true x r s e = refl
under false x r s e = e

found_under : (b : Bool) (x : Option ℕ) (r : Option (Option ℕ)) → is_some r ≡ true → is_some (cond b (Some x) r) ≡ true
found_under true x r e = refl
found_under false x r e = e

chosen : (c : Bool) (v w : Option ℕ) (r : Option (Option ℕ)) → flat (cond c (Some w) r) ≡ cond c w (flat (cond c (Some v) r))
chosen true v w r = refl
chosen false v w r = refl

apart : (c d : Bool) (v w : Option ℕ) (r s : Option (Option ℕ)) → (d ≡ true → c ≡ false) → flat r ≡ cond c w (flat s) →
    flat (cond d (Some v) r) ≡ cond c w (flat (cond d (Some v) s))
apart c false v w r s other e = e
apart c true v w r s other e = rw (other refl) refl

module _ {K : Type 0} (test : K → Bool) where
  -- room without a number changes no number
  pub same_with_room : (es : List (K × Option ℕ)) (key : K) → flat (lookup test (es ++ (key, None) ∷ [])) ≡ flat (lookup test es)
  same_with_room [] key = room_last (test key)
  same_with_room (e ∷ es) key = under (test e.0) e.1 _ _ (same_with_room es key)

  pub found_last : (es : List (K × Option ℕ)) (key : K) (v : Option ℕ) → test key ≡ true → is_some (lookup test (es ++ (key, v) ∷ [])) ≡ true
  found_last [] key v e = rw e refl
  found_last (x ∷ es) key v e = found_under (test x.0) x.1 _ (found_last es key v e)

module _ {K : Type 0} (bytes : K → List ℕ) where
  abbrev at : List ℕ → K → Bool
  at name key = bytes_eq name (bytes key)

  -- the number that is set is the one of its name, and each other name keeps its own
  pub number_set : (name other : List ℕ) (es : List (K × Option ℕ)) (w : Option ℕ) → is_some (lookup (at name) es) ≡ true →
      flat (lookup (at other) (set_value (at name) es w)) ≡ cond (bytes_eq name other) w (flat (lookup (at other) es))
  number_set name other [] w there = absurd (true≢false (sym there))
  number_set name other (e ∷ es) w there = by (bytes_eq name (bytes e.0)) refl there (number_set name other es w)
    where
      by : (b : Bool) → bytes_eq name (bytes e.0) ≡ b → is_some (cond b (Some e.1) (lookup (at name) es)) ≡ true →
          (is_some (lookup (at name) es) ≡ true →
          flat (lookup (at other) (set_value (at name) es w)) ≡ cond (bytes_eq name other) w (flat (lookup (at other) es))) →
          flat (lookup (at other) (cond b ((e.0, w) ∷ es) (e ∷ set_value (at name) es w))) ≡ cond (bytes_eq name other) w (flat (lookup (at other) (e ∷ es)))
      by true p h behind =
          let here : bytes e.0 ≡ name = sym (bytes_eq_same name (bytes e.0) p) in
          let turned : bytes_eq other (bytes e.0) ≡ bytes_eq name other = ap (bytes_eq other) here ∙ nat_list_eq_equiv.symm other name in
          rw turned (chosen (bytes_eq name other) e.1 w (lookup (at other) es))
      by false p h behind =
          apart (bytes_eq name other) (bytes_eq other (bytes e.0)) e.1 w _ _
          (λ same. ap (bytes_eq name) (bytes_eq_same other (bytes e.0) same) ∙ p) (behind h)
