-- A comment goes up to the first `*/`.
use Rattle.std.proofs.Common.{◌≡◌, ℕ, ◌==◌, ◌&&◌, ◌↔◌, Bool, true, false, if◌then◌else◌, List, [], ◌∷◌, ◌++◌, Option, Some, None, refl, sym, ap, ◌∙◌}
use Rattle.std.proofs.Math.Bool.{and-false}
use Rattle.std.proofs.lemmas.Bool.{and_parts, eqb-true}
use Rattle.fc_base.specs.declared.rules.Rule.TheVariants.{OpenComment}
use Rattle.c_tokens.specs.declared.pieces.Piece.{Piece}
use Rattle.c_tokens.specs.declared.pieces.Piece.TheVariants.{Space, Refused}
use Rattle.c_tokens.specs.Pieces.{alone, comment, spelled, HasNoEnd, IsClosed}

-- what stands behind the first `*/`
abbrev behind_end : List ℕ → Option (List ℕ)
behind_end [] = None
behind_end (a ∷ []) = None
behind_end (a ∷ b ∷ rest) = if a == 42 && b == 47 then Some rest else behind_end (b ∷ rest)

-- ---- the definition looks for it

abbrev decided : Option (List ℕ) → Option Piece
decided None = Some (Refused OpenComment 0)
decided (Some rest) = alone Space rest

-- the text with the star before it
abbrev starred : Bool → List ℕ → List ℕ
starred true bs = 42 ∷ bs
starred false bs = bs

skip : (b : ℕ) (bs : List ℕ) (v : Bool) → (b == 42) ≡ v → behind_end (starred (b == 42) bs) ≡ behind_end (b ∷ bs)
skip b bs true e = rw e (ap (λ (n : ℕ). behind_end (n ∷ bs)) (sym (eqb-true b 42 e)))
skip b [] false e = rw e refl
skip b (c ∷ cs) false e = rw e refl

comment_step : (b : ℕ) (bs : List ℕ) (v : Bool) → (b == 47) ≡ v → comment (b == 42) bs ≡ decided (behind_end (b ∷ bs))
    → comment true (b ∷ bs) ≡ decided (behind_end (42 ∷ b ∷ bs))
unfolding comment
comment_step b bs true e so = rw e refl
comment_step b bs false e so = rw e so

comment_is : (star : Bool) (bs : List ℕ) → comment star bs ≡ decided (behind_end (starred star bs))
unfolding comment
comment_is true [] = refl
comment_is false [] = refl
comment_is true (b ∷ bs) = comment_step b bs (b == 47) refl (comment_is (b == 42) bs ∙ ap decided (skip b bs (b == 42) refl))
comment_is false (b ∷ bs) = comment_is (b == 42) bs ∙ ap decided (skip b bs (b == 42) refl)

-- ---- without an end

none_step : (a b : ℕ) (rest : List ℕ) (v : Bool) → (a == 42 && b == 47) ≡ v → behind_end (a ∷ b ∷ rest) ≡ None
    → behind_end (b ∷ rest) ≡ None
none_step a b rest true e none = let some : Some rest ≡ None = rw e at none in absurd cc
none_step a b rest false e none = rw e at none

none_later : (a : ℕ) (text : List ℕ) → behind_end (a ∷ text) ≡ None → behind_end text ≡ None
none_later a [] none = refl
none_later a (b ∷ rest) none = none_step a b rest (a == 42 && b == 47) refl none

none_behind : (before text : List ℕ) → behind_end (before ++ text) ≡ None → behind_end text ≡ None
none_behind [] text none = none
none_behind (a ∷ before) text none = none_behind before text (none_later a (before ++ text) none)

no_end : (text : List ℕ) → behind_end text ≡ None → HasNoEnd text
no_end text none = λ before behind e.
    let some : Some behind ≡ None = none_behind before (42 ∷ 47 ∷ behind) (ap behind_end e ∙ none) in
    absurd cc

-- ---- the first end

record Found (text rest : List ℕ) : Type 0 where
  before : List ℕ
  at : before ++ 42 ∷ 47 ∷ rest ≡ text
  first : behind_end (before ++ 42 ∷ []) ≡ None

first_byte : (a c : ℕ) (xs ys : List ℕ) → a ∷ xs ≡ c ∷ ys → a ≡ c
first_byte a c xs ys e = cc

-- one byte more before an end
further : (a b : ℕ) (rest behind : List ℕ) → (a == 42 && b == 47) ≡ false → (before : List ℕ) → before ++ 42 ∷ 47 ∷ behind ≡ b ∷ rest
    → behind_end (before ++ 42 ∷ []) ≡ None
    → behind_end (a ∷ before ++ 42 ∷ []) ≡ None
further a b rest behind e [] at first = rw (and-false (a == 42)) refl
further a b rest behind e (c ∷ cs) at first =
    let same : c ≡ b = first_byte c b (cs ++ 42 ∷ 47 ∷ behind) rest at in
    let test : (a == 42 && c == 47) ≡ false = ap (λ (n : ℕ). a == 42 && n == 47) same ∙ e in
    rw test first

found_step : (a b : ℕ) (rest behind : List ℕ) (v : Bool) → (a == 42 && b == 47) ≡ v
    → (behind_end (b ∷ rest) ≡ Some behind → Found (b ∷ rest) behind) → behind_end (a ∷ b ∷ rest) ≡ Some behind
    → Found (a ∷ b ∷ rest) behind
found_step a b rest behind true e so some =
    let parts = and_parts (a == 42) (b == 47) e in
    let some' : Some rest ≡ Some behind = rw e at some in
    let one : 42 ≡ a = sym (eqb-true a 42 parts.0) in
    let two : 47 ≡ b = sym (eqb-true b 47 parts.1) in
    let same : behind ≡ rest = cc in
    record {
      before = [];
      at = ap (λ (xs : List ℕ). 42 ∷ 47 ∷ xs) same ∙ ap (λ (n : ℕ). n ∷ 47 ∷ rest) one
          ∙ ap (λ (n : ℕ). a ∷ n ∷ rest) two;
      first = refl;
    }
found_step a b rest behind false e so some =
    let more = so (rw e at some) in
    record {
      before = a ∷ more.before;
      at = ap (λ (xs : List ℕ). a ∷ xs) more.at;
      first = further a b rest behind e more.before more.at more.first;
    }

found : (text behind : List ℕ) → behind_end text ≡ Some behind → Found text behind
found [] behind some = absurd cc
found (a ∷ []) behind some = absurd cc
found (a ∷ b ∷ rest) behind some = found_step a b rest behind (a == 42 && b == 47) refl (found (b ∷ rest) behind) some

none_from : (text : List ℕ) (o : Option (List ℕ)) → behind_end text ≡ o → HasNoEnd text → behind_end text ≡ None
none_from text None e never = e
none_from text (Some rest) e never = let is = found text rest e in absurd (never is.before rest is.at)

end_step : (a c : ℕ) (xs ys : List ℕ) (v : Bool) → (a == 42 && c == 47) ≡ v → behind_end (a ∷ c ∷ xs) ≡ None
    → (behind_end (c ∷ xs) ≡ None → behind_end (c ∷ ys) ≡ Some []) → behind_end (a ∷ c ∷ ys) ≡ Some []
end_step a c xs ys true e none so = let some : Some xs ≡ None = rw e at none in absurd cc
end_step a c xs ys false e none so = rw e (so (rw e at none))

end_is : (text : List ℕ) → behind_end (text ++ 42 ∷ []) ≡ None → behind_end (text ++ 42 ∷ 47 ∷ []) ≡ Some []
end_is [] none = refl
end_is (a ∷ []) none = rw (and-false (a == 42)) refl
end_is (a ∷ c ∷ cs) none = end_step a c (cs ++ 42 ∷ []) (cs ++ 42 ∷ 47 ∷ []) (a == 42 && c == 47) refl none (end_is (c ∷ cs))

-- ---- the laws

closed_from : (bs : List ℕ) (o : Option (List ℕ)) → behind_end bs ≡ o → decided o ≡ Some Space → IsClosed bs
closed_from bs None e is = absurd cc
closed_from bs (Some []) e is =
    let f = found bs [] e in record { text = f.before; ends = f.at; first = no_end (f.before ++ 42 ∷ []) f.first }
closed_from bs (Some (c ∷ cs)) e is = absurd cc

space_from : (bs : List ℕ) → IsClosed bs → decided (behind_end bs) ≡ Some Space
space_from bs is =
    let none : behind_end (is.text ++ 42 ∷ []) ≡ None = none_from (is.text ++ 42 ∷ []) (behind_end (is.text ++ 42 ∷ [])) refl is.first in
    ap decided (ap behind_end (sym is.ends) ∙ end_is is.text none)

open_from : (bs : List ℕ) (o : Option (List ℕ)) → behind_end bs ≡ o → decided o ≡ Some (Refused OpenComment 0) → HasNoEnd bs
open_from bs None e is = no_end bs e
open_from bs (Some []) e is = absurd cc
open_from bs (Some (c ∷ cs)) e is = absurd cc

pub closed_comment : (after_include : Bool) (bs : List ℕ) → spelled after_include (47 ∷ 42 ∷ bs) ≡ Some Space ↔ IsClosed bs
unfolding spelled
closed_comment after_include bs =
    (λ is. closed_from bs (behind_end bs) refl (sym (comment_is false bs) ∙ is), λ is. comment_is false bs ∙ space_from bs is)

pub open_comment : (after_include : Bool) (bs : List ℕ)
    → spelled after_include (47 ∷ 42 ∷ bs) ≡ Some (Refused OpenComment 0) ↔ HasNoEnd bs
unfolding spelled
open_comment after_include bs = (
  λ is. open_from bs (behind_end bs) refl (sym (comment_is false bs) ∙ is),
  λ never. comment_is false bs
      ∙ ap decided (none_from bs (behind_end bs) refl never),
)
