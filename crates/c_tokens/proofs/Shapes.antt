-- A literal goes up to the first quote that no backslash escapes.
use Rattle.std.proofs.Common.{◌≡◌, ℕ, ◌==◌, ◌||◌, ◌↔◌, Bool, true, false, if◌then◌else◌, List, [], ◌∷◌, Some, None, refl, sym, ◌∙◌, subst}
use Rattle.std.proofs.Math.Bool.{and-false}
use Rattle.std.proofs.lemmas.Bool.{eqb-true}
use Rattle.c_tokens.specs.Bytes.{is_empty, is_quote}
use Rattle.c_tokens.specs.Literals.{Shape, closed, unclosed, shape, HasShape, ends, runs_out, backslash_last, plain_byte, escaped_byte}
use Rattle.c_tokens.proofs.LiteralSpelling.{IsQuote, double, single, shape_plain, shape_escaped, shape_backslash}

some_shape : (s t : Shape) → Some s ≡ Some t → s ≡ t
some_shape s t e = cc

module _ (quote : ℕ) where
  abbrev Reads : List ℕ → Type 0
  Reads bs =
      ((s : Shape) → shape quote true false bs ≡ Some s → HasShape quote s bs)
      × ((s : Shape) → shape quote true true bs ≡ Some s → HasShape quote s (92 ∷ bs))

  at_quote : (b : ℕ) (bs : List ℕ) (s : Shape) → (b == quote) ≡ true → (if is_empty bs then Some closed else None) ≡ Some s
      → HasShape quote s (b ∷ bs)
  at_quote b [] s e is =
      subst (λ t. HasShape quote t (b ∷ [])) (some_shape closed s is)
      (subst (λ (n : ℕ). HasShape quote closed (n ∷ [])) (sym (eqb-true b quote e)) ends)
  at_quote b (c ∷ cs) s e is = absurd cc

  at_byte : (b : ℕ) (bs : List ℕ) (s : Shape) (u v w : Bool) → (b == 10) ≡ u → (b == quote) ≡ v → (b == 92) ≡ w → Reads bs
      → shape quote true false (b ∷ bs) ≡ Some s → HasShape quote s (b ∷ bs)
  unfolding shape
  at_byte b bs s true v w e f g so is = let none : None ≡ Some s = rw e at is in absurd cc
  at_byte b bs s false true w e f g so is = at_quote b bs s f (rw (e, f) at is)
  at_byte b bs s false false true e f g so is =
      subst (λ (n : ℕ). HasShape quote s (n ∷ bs)) (sym (eqb-true b 92 g)) (so.1 s (rw (e, f, g) at is))
  at_byte b bs s false false false e f g so is = plain_byte e f g (so.0 s (rw (e, f, g) at is))

  at_escaped : (b : ℕ) (bs : List ℕ) (s : Shape) (u : Bool) → (b == 10) ≡ u → Reads bs → shape quote true true (b ∷ bs) ≡ Some s
      → HasShape quote s (92 ∷ b ∷ bs)
  unfolding shape
  at_escaped b bs s true e so is = let none : None ≡ Some s = rw e at is in absurd cc
  at_escaped b bs s false e so is = escaped_byte e (so.0 s (rw (e, and-false (b == quote), and-false (b == 92)) at is))

  reads : (bs : List ℕ) → Reads bs
  unfolding shape
  reads [] = (
    λ s is. subst (λ t. HasShape quote t []) (some_shape unclosed s is) runs_out,
    λ s is. subst (λ t. HasShape quote t (92 ∷ [])) (some_shape unclosed s is) backslash_last,
  )
  reads (b ∷ bs) = (
    λ s is. at_byte b bs s (b == 10) (b == quote) (b == 92) refl refl refl (reads bs) is,
    λ s is. at_escaped b bs s (b == 10) refl (reads bs) is,
  )

  gives : {s : Shape} {bs : List ℕ} → IsQuote quote → HasShape quote s bs → shape quote true false bs ≡ Some s
  unfolding shape
  gives q ends = rw (q.newline, q.same) refl
  gives q runs_out = refl
  gives q backslash_last = shape_backslash quote [] q.backslash
  gives q (plain_byte {b = b} {bs = bs} e f g h) = shape_plain quote b bs e f g ∙ gives q h
  gives q (escaped_byte {b = b} {bs = bs} e h) = shape_backslash quote (b ∷ bs) q.backslash ∙ shape_escaped quote b bs e ∙ gives q h

quote_by : (quote : ℕ) (v w : Bool) → (quote == 34) ≡ v → (quote == 39) ≡ w → (v || w) ≡ true → IsQuote quote
quote_by quote true w e f is = let P : ℕ → Type 0 = λ n. IsQuote n in subst P (sym (eqb-true quote 34 e)) double
quote_by quote false true e f is = let P : ℕ → Type 0 = λ n. IsQuote n in subst P (sym (eqb-true quote 39 f)) single
quote_by quote false false e f is = absurd cc

pub shape_is : (quote : ℕ) (s : Shape) (bs : List ℕ) → is_quote quote ≡ true → shape quote true false bs ≡ Some s ↔ HasShape quote s bs
shape_is quote s bs is = ((reads quote bs).0 s, gives quote (quote_by quote (quote == 34) (quote == 39) refl refl is))
