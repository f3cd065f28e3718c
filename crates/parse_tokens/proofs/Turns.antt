-- A recursion on a count of turns, beside a loop that counts up; and a list that grows at its end, beside one that is
-- read from its front.
use Rattle.std.proofs.Common.{◌≡◌, ℕ, suc, ◌+◌, ◌-◌, ◌<◌, ◌≤◌, max, List, [], ◌++◌, Option, Some, None, refl, sym, ap, ◌∙◌, append_assoc, append-nil, nat_cmp, rules, arith}
use Rattle.std.proofs.lemmas.Grind.{common_steps}
use Rattle.std.specs.Ordering.{ord_max}
use Rattle.parse_meaning.specs.Terminals.{Lexeme}
use Rattle.parse_reading.specs.Reading.{Read, found, prepended}

pub one_more : {X : Type 0} {x : X} (f : ℕ → X) (n at : ℕ) → at < n → x ≡ f (n - at) → x ≡ f (suc (n - (at + 1)))
one_more f n at below e = let turn : n - at ≡ suc (n - (at + 1)) = omega arith in e ∙ ap f turn

pub no_more : {X : Type 0} {x : X} (f : ℕ → X) (n at : ℕ) → n ≤ at → x ≡ f (n - at) → x ≡ f 0
no_more f n at done e = let none : n - at ≡ 0 = omega arith in e ∙ ap f none

module _ {A : Type 0} where
  pub prepended-prepended : (xs ys : List A) (h j : ℕ) (r : Option (Read (List A)))
      → prepended xs h (prepended ys j r) ≡ prepended (xs ++ ys) (max h j) r
  prepended-prepended xs ys h j None = refl
  prepended-prepended xs ys h j (Some r) =
      let trees : xs ++ (ys ++ r.tree) ≡ (xs ++ ys) ++ r.tree = sym (append_assoc xs ys r.tree) in
      let heights : max h (max j r.height) ≡ max (max h j) r.height = omega arith in
      let made : List A → ℕ → Option (Read (List A)) = λ t m. Some (found t m r.rest) in
      ap (λ t. made t (max h (max j r.height))) trees ∙ ap (made ((xs ++ ys) ++ r.tree)) heights

  pub prepended-nothing : (r : Option (Read (List A))) → r ≡ prepended [] 0 r
  prepended-nothing None = refl
  prepended-nothing (Some r) =
      let made : ℕ → Option (Read (List A)) = λ m. Some (found r.tree m r.rest) in
      let height : r.height ≡ max 0 r.height = omega arith in
      ap made height

  pub prepended_last : (xs : List A) (h : ℕ) (t : List Lexeme) → prepended xs h (Some (found [] 0 t)) ≡ Some (found xs h t)
  prepended_last xs h t =
      let made : List A → ℕ → Option (Read (List A)) = λ ys m. Some (found ys m t) in
      let height : max h 0 ≡ h = omega arith in
      ap (λ ys. made ys (max h 0)) (append-nil xs) ∙ ap (made xs) height

-- the higher of two trees, as code finds it
pub highest : (a b : ℕ) → ord_max nat_cmp a b ≡ max a b
highest a b = first_of (search rules, grind (arith, common_steps))
