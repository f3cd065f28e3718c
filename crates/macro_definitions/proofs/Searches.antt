-- Searches along a list of names or of tokens.
use Rattle.std.proofs.Common.{◌≡◌, ℕ, suc, ◌+◌, ◌<◌, Bool, true, false, not, ◌||◌, cond, List, [], ◌∷◌, length, get_or, drop, Some, refl, sym, ap, ◌∙◌, add-one, drop-cons}
use Rattle.std.specs.Prelude.{find}
use Rattle.std.specs.Borrow.{Bor}
use Rattle.std.specs.List.{list_any, position_or_len, position}
use Rattle.std.proofs.lemmas.List.{length-map}
use Rattle.c_tokens.specs.declared.Token.{Token}
use Rattle.macro_meaning.specs.Macros.{Name}
use Rattle.macro_items.specs.Views.{names}

-- a test of names over a list of references to them
pub any_named : (p : Name → Bool) (list : List (Bor (List ℕ))) → list_any (λ k. p k.now) list ≡ list_any p (names list)
any_named p [] = refl
any_named p (k ∷ ks) = ap (λ (b : Bool). p k.now || b) (any_named p ks)

first_named : (p : Name → Bool) (list : List (Bor (List ℕ))) → position_or_len (λ k. p k.now) list ≡ position_or_len p (names list)
first_named p [] = refl
first_named p (k ∷ ks) = ap (λ (n : ℕ). cond (not (p k.now)) (1 + n) 0) (first_named p ks)

pub position_named : (p : Name → Bool) (list : List (Bor (List ℕ))) → position (λ k. p k.now) list ≡ position p (names list)
position_named p list = rw (first_named p list, length-map list (λ r. r.now)) refl

module _ (p : Token → Bool) (ts : List Token) (i : ℕ) (x : Token) (lt : i < length ts) (is : x ≡ get_or ts i x) where
  token_dropped : drop i ts ≡ x ∷ drop (i + 1) ts
  token_dropped = rw add-one (drop-cons ts i x lt ∙ ap (λ (z : Token). z ∷ drop (suc i) ts) (sym is))

  pub find_here : p x ≡ true → find p (drop i ts) ≡ Some x
  find_here e = ap (find p) token_dropped ∙ rw e refl

  pub find_later : p x ≡ false → find p (drop i ts) ≡ find p (drop (i + 1) ts)
  find_later e = ap (find p) token_dropped ∙ rw e refl
