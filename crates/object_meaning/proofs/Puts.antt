-- Reads after a put.
use Rattle.std.proofs.Common.{◌≡◌, ℕ, ◌+◌, ◌-◌, ◌<◌, ◌≤◌, ◌⊎◌, ⊎_elim, List, ◌++◌, length, get_or, take, drop, refl, ap, ◌∙◌, arith, length-append}
use Rattle.std.proofs.lemmas.List.{get_or-take, get_or-drop, get_or_append_left, get_or-append_right, length-take, length-drop}
use Rattle.library_meaning.specs.Memory.{put}

module _ {X : Type 0} (i : ℕ) (ys xs : List X) (fits : i + length ys ≤ length xs) where
  front : length (take i xs) ≡ i
  front = omega (arith, length-take i xs)

  pub length-put : length (put i ys xs) ≡ length xs
  length-put = omega (arith, front, length-append (take i xs) (ys ++ drop (i + length ys) xs), length-append ys (drop (i + length ys) xs), length-drop (i + length ys) xs)

  pub put_outside : (k : ℕ) (d : X) → (k < i) ⊎ (i + length ys ≤ k) → get_or (put i ys xs) k d ≡ get_or xs k d
  put_outside k d h = ⊎_elim
      (λ (l : k < i). get_or_append_left (take i xs) _ d k (omega (arith, front)) ∙ get_or-take i xs k d l)
      (λ (l : i + length ys ≤ k).
      let e : i + length ys + (k - i - length ys) ≡ k = omega arith in
      get_or-append_right (take i xs) _ i k d front (omega arith) ∙ get_or-append_right ys _ (length ys) (k - i) d refl (omega arith) ∙ get_or-drop (i + length ys) xs (k - i - length ys) d ∙ ap (λ z. get_or xs z d) e)
      h

  pub put_inside : (k : ℕ) (d : X) → k < length ys → get_or (put i ys xs) (i + k) d ≡ get_or ys k d
  put_inside k d l =
      let e : i + k - i ≡ k = omega arith in
      get_or-append_right (take i xs) _ i (i + k) d front (omega arith) ∙ ap (λ z. get_or (ys ++ drop (i + length ys) xs) z d) e ∙ get_or_append_left ys _ d k l
