-- The line of a condition is answered as its reading says.
use Rattle.std.proofs.Common.{◌≡◌, ℕ, zero, suc, Bool, true, false, if◌then◌else◌, List, [], ◌∷◌, drop, Option, Some, None, option_map, refl}
use Rattle.c_tokens.specs.declared.Token.{Token}
use Rattle.c_tokens.specs.declared.TokenKind.{TokenKind}
use Rattle.c_tokens.specs.declared.TokenKind.TheVariants as kind
use Rattle.macro_meaning.specs.Macros.{Name, Macros, opens, closes}
use Rattle.macro_meaning.specs.Definitions.{name_of}
use Rattle.macro_meaning.specs.Conditions.{asks_defined, answer, IsAnswered, end, another, named, bracketed}
use Rattle.macro_meaning.specs.Answering.{asked_in_brackets, asked, before, answered, with_answers}

module _ (ms : Macros) where
  -- ---- what is read is an answer

  abbrev IsSound : List Token → Type 0
  IsSound line = (new : List Token) → with_answers ms 0 line ≡ Some new → IsAnswered ms line new

  token_before : (t : Token) (ts new : List Token) → asks_defined t.kind ≡ false → (o : Option (List Token))
      → ((new : List Token) → o ≡ Some new → IsAnswered ms ts new)
      → before t o ≡ Some new → IsAnswered ms (t ∷ ts) new
  token_before t ts new d None more e = cc
  token_before t ts new d (Some us) more e = let same : t ∷ us ≡ new = cc in rw (← same) (another d (more us refl))

  name_before : (t n : Token) (ts new : List Token) (name : Name) → asks_defined t.kind ≡ true → name_of n.kind ≡ Some name
      → (o : Option (List Token))
      → ((new : List Token) → o ≡ Some new → IsAnswered ms ts new) → before (answer ms t name) o ≡ Some new → IsAnswered ms (t ∷ n ∷ ts) new
  name_before t n ts new name d e None more h = cc
  name_before t n ts new name d e (Some us) more h = let same : answer ms t name ∷ us ≡ new = cc in rw (← same) (named d e (more us refl))

  bracket_before : (t lp n rp : Token) (ts new : List Token) (name : Name) → asks_defined t.kind ≡ true → opens lp.kind ≡ true
      → name_of n.kind ≡ Some name
      → closes rp.kind ≡ true → (o : Option (List Token)) → ((new : List Token) → o ≡ Some new → IsAnswered ms ts new)
      → before (answer ms t name) o ≡ Some new → IsAnswered ms (t ∷ lp ∷ n ∷ rp ∷ ts) new
  bracket_before t lp n rp ts new name d b e c None more h = cc
  bracket_before t lp n rp ts new name d b e c (Some us) more h =
      let same : answer ms t name ∷ us ≡ new = cc in rw (← same) (bracketed d b e c (more us refl))

  one_name : (t n : Token) (ts new : List Token) → asks_defined t.kind ≡ true → IsSound ts → (o : Option Name) → name_of n.kind ≡ o
      → answered ms t (option_map (λ name. (name, 1)) o) (λ k. with_answers ms k (n ∷ ts)) ≡ Some new → IsAnswered ms (t ∷ n ∷ ts) new
  unfolding with_answers
  one_name t n ts new d more None e h = cc
  one_name t n ts new d more (Some name) e h = name_before t n ts new name d e (with_answers ms 0 ts) more h

  in_brackets : (t lp n rp : Token) (ts new : List Token) → asks_defined t.kind ≡ true → opens lp.kind ≡ true → closes rp.kind ≡ true
      → IsSound ts
      → (o : Option Name) → name_of n.kind ≡ o
      → answered ms t (option_map (λ name. (name, 3)) o) (λ k. with_answers ms k (lp ∷ n ∷ rp ∷ ts)) ≡ Some new
      → IsAnswered ms (t ∷ lp ∷ n ∷ rp ∷ ts) new
  unfolding with_answers
  in_brackets t lp n rp ts new d b c more None e h = cc
  in_brackets t lp n rp ts new d b c more (Some name) e h = bracket_before t lp n rp ts new name d b e c (with_answers ms 0 ts) more h

  closed_by : (t lp n rp : Token) (ts new : List Token) → asks_defined t.kind ≡ true → opens lp.kind ≡ true → IsSound ts → (v : Bool)
      → closes rp.kind ≡ v
      → answered ms t (if v then option_map (λ name. (name, 3)) (name_of n.kind) else None)
      (λ k. with_answers ms k (lp ∷ n ∷ rp ∷ ts)) ≡ Some new
      → IsAnswered ms (t ∷ lp ∷ n ∷ rp ∷ ts) new
  closed_by t lp n rp ts new d b more true c h = in_brackets t lp n rp ts new d b c more (name_of n.kind) refl h
  closed_by t lp n rp ts new d b more false c h = cc

  opened_by : (t u : Token) (us new : List Token) → asks_defined t.kind ≡ true → ((k : ℕ) → IsSound (drop k (u ∷ us))) → opens u.kind ≡ true
      → answered ms t (asked_in_brackets us) (λ k. with_answers ms k (u ∷ us)) ≡ Some new → IsAnswered ms (t ∷ u ∷ us) new
  opened_by t u [] new d more b h = cc
  opened_by t u (n ∷ []) new d more b h = cc
  opened_by t u (n ∷ rp ∷ ts) new d more b h = closed_by t u n rp ts new d b (more 3) (closes rp.kind) refl h

  asked_by : (t u : Token) (us new : List Token) → asks_defined t.kind ≡ true → ((k : ℕ) → IsSound (drop k (u ∷ us))) → (v : Bool)
      → opens u.kind ≡ v
      → answered ms t (if v then asked_in_brackets us else option_map (λ name. (name, 1)) (name_of u.kind))
      (λ k. with_answers ms k (u ∷ us)) ≡ Some new
      → IsAnswered ms (t ∷ u ∷ us) new
  asked_by t u us new d more true b h = opened_by t u us new d more b h
  asked_by t u us new d more false b h = one_name t u us new d (more 1) (name_of u.kind) refl h

  defined_by : (t : Token) (ts new : List Token) → asks_defined t.kind ≡ true → ((k : ℕ) → IsSound (drop k ts))
      → answered ms t (asked ts) (λ k. with_answers ms k ts) ≡ Some new → IsAnswered ms (t ∷ ts) new
  defined_by t [] new d more h = cc
  defined_by t (u ∷ us) new d more h = asked_by t u us new d more (opens u.kind) refl h

  token_by : (t : Token) (ts new : List Token) → ((k : ℕ) → IsSound (drop k ts)) → (v : Bool) → asks_defined t.kind ≡ v
      → (if v then answered ms t (asked ts) (λ k. with_answers ms k ts) else before t (with_answers ms 0 ts)) ≡ Some new
      → IsAnswered ms (t ∷ ts) new
  token_by t ts new more true d h = defined_by t ts new d more h
  token_by t ts new more false d h = token_before t ts new d (with_answers ms 0 ts) (more 0) h

  behind_some : (ts : List Token) (k : ℕ) → IsSound (drop k ts)
  unfolding with_answers
  behind_some [] zero new e = let same : [] ≡ new = cc in rw (← same) end
  behind_some [] (suc k) new e = let same : [] ≡ new = cc in rw (← same) end
  behind_some (t ∷ ts) zero new e = token_by t ts new (behind_some ts) (asks_defined t.kind) refl e
  behind_some (t ∷ ts) (suc k) new e = behind_some ts k new e

  pub is_answered : (line new : List Token) → with_answers ms 0 line ≡ Some new → IsAnswered ms line new
  is_answered line new e = behind_some line 0 new e

  -- ---- each answer is read

  no_bracket : (k : TokenKind) (name : Name) → name_of k ≡ Some name → opens k ≡ false
  no_bracket (kind.Name n) name e = refl
  no_bracket _ name e = cc

  pub is_read : {line new : List Token} → IsAnswered ms line new → with_answers ms 0 line ≡ Some new
  unfolding with_answers
  is_read end = refl
  is_read (another d r) = rw (d, is_read r) refl
  is_read (named {n = n} {name = name} d e r) = rw (d, no_bracket n.kind name e, e, is_read r) refl
  is_read (bracketed d b e c r) = rw (d, b, c, e, is_read r) refl

  -- ---- one answer, or none

  pub one_answer : {line a b : List Token} → IsAnswered ms line a → IsAnswered ms line b → a ≡ b
  one_answer {line} {a} {b} x y =
      let e = is_read x in
      let f = is_read y in cc

  pub no_answer : (line : List Token) → with_answers ms 0 line ≡ None → (new : List Token) → IsAnswered ms line new → ⊥
  no_answer line e new x = let f = is_read x in cc
