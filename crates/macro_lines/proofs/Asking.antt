-- A condition's line, one token after the other.
use Rattle.std.proofs.Common.{◌≡◌, ℕ, zero, suc, ◌+◌, ◌≤◌, ◌<◌, true, false, if◌then◌else◌, List, [], ◌∷◌, ◌++◌, length, get_or, drop, Option, Some, None, option_map, refl, sym, ap, ◌∙◌, append_assoc, add-one, drop-cons}
use Rattle.std.proofs.lemmas.List.{drop-drop, drop_all, append-nil}
use Rattle.c_tokens.specs.declared.Token.{Token}
use Rattle.macro_meaning.specs.Macros.{Name, Macros, Item, item, items}
use Rattle.macro_meaning.specs.Conditions.{asks_defined, answer}
use Rattle.macro_meaning.specs.Answering.{asked, before, answered, with_answers}

-- the items of the line, behind those from before
abbrev pub behind : List Item → Option (List Token) → Option (List Item)
behind front = option_map (λ ts. front ++ items ts)

behind_more : (front : List Item) (t : Token) (o : Option (List Token)) → behind front (before t o) ≡ behind (front ++ item t ∷ []) o
behind_more front t None = refl
behind_more front t (Some ts) = ap (λ (xs : List Item). Some xs) (sym (append_assoc front (item t ∷ []) (items ts)))

-- tokens that are passed over
passed : (ms : Macros) (n : ℕ) (ts : List Token) → with_answers ms n ts ≡ with_answers ms 0 (drop n ts)
unfolding with_answers
passed ms zero ts = refl
passed ms (suc n) [] = refl
passed ms (suc n) (t ∷ ts) = passed ms n ts

module _ (ms : Macros) (front : List Item) (line : List Token) (i : ℕ) (x : Token) (all : Option (List Item)) (lt : i < length line)
    (is : x ≡ get_or line i x)
    (same : behind front (with_answers ms 0 (drop i line)) ≡ all) where
  token_dropped : drop i line ≡ x ∷ drop (i + 1) line
  token_dropped = rw add-one (drop-cons line i x lt ∙ ap (λ (z : Token). z ∷ drop (suc i) line) (sym is))

  next : with_answers ms 0 (drop i line) ≡
      (if asks_defined x.kind then answered ms x (asked (drop (i + 1) line)) (λ n. with_answers ms n (drop (i + 1) line))
      else before x (with_answers ms 0 (drop (i + 1) line)))
  unfolding with_answers
  next = ap (with_answers ms 0) token_dropped

  pub no_answer : asks_defined x.kind ≡ true → None ≡ asked (drop (i + 1) line) → None ≡ all
  no_answer d a = let g = rw (next, d, ← a) at same in g

  pub one_answer : (name : Name) (used : ℕ) → asks_defined x.kind ≡ true → Some (name, used) ≡ asked (drop (i + 1) line)
      → behind (front ++ item (answer ms x name) ∷ []) (with_answers ms 0 (drop (i + 1 + used) line)) ≡ all
  one_answer name used d a =
      let g = rw (next, d, ← a) at same in
      let s : with_answers ms used (drop (i + 1) line) ≡ with_answers ms 0 (drop (i + 1 + used) line) =
      passed ms used (drop (i + 1) line) ∙ ap (with_answers ms 0) (drop-drop used (i + 1) line) in
      ap (behind (front ++ item (answer ms x name) ∷ [])) (sym s)
      ∙ sym (behind_more front (answer ms x name) (with_answers ms used (drop (i + 1) line))) ∙ g

  pub one_token : asks_defined x.kind ≡ false → behind (front ++ item x ∷ []) (with_answers ms 0 (drop (i + 1) line)) ≡ all
  one_token d =
      let g = rw (next, d) at same in
      sym (behind_more front x (with_answers ms 0 (drop (i + 1) line))) ∙ g

pub all_answered : (ms : Macros) (front : List Item) (line : List Token) (i : ℕ) (all : Option (List Item)) → length line ≤ i
    → behind front (with_answers ms 0 (drop i line)) ≡ all → Some front ≡ all
unfolding with_answers
all_answered ms front line i all le h =
    let d : drop i line ≡ [] = drop_all i line le in
    let g = rw (d, append-nil) at h in g
