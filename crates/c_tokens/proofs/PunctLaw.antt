-- A punctuator's text is its spelling.
use Rattle.std.proofs.Common.{◌≡◌, ℕ, Bool, true, false, if◌then◌else◌, List, [], ◌∷◌, Option, Some, refl, sym, ap, ◌∙◌}
use Rattle.std.specs.Bool.{Decides}
use Rattle.std.specs.List.{find}
use Rattle.std.specs.Str.{bytes_eq}
use Rattle.std.proofs.lemmas.Slice.Eq.{bytes_eq-Decides}
use Rattle.c_tokens.specs.declared.puncts.Punct.{Punct}
use Rattle.c_tokens.specs.declared.puncts.Punct.TheVariants as p
use Rattle.c_tokens.specs.Puncts.{punct_spelling, same_punct, puncts, punctuator}

abbrev spells : List ℕ → Punct → Bool
spells text punct = bytes_eq text (punct_spelling punct)

found_step : (text : List ℕ) (first punct : Punct) (rest : Option Punct) (v : Bool) → spells text first ≡ v
    → (rest ≡ Some punct → text ≡ punct_spelling punct)
    → (if spells text first then Some first else rest) ≡ Some punct → text ≡ punct_spelling punct
found_step text first punct rest true e so found =
    let found' : Some first ≡ Some punct = rw e at found in
    let is : first ≡ punct = cc in
    (bytes_eq-Decides text (punct_spelling first)).0 e ∙ ap punct_spelling is
found_step text first punct rest false e so found = so (rw e at found)

found_text : (text : List ℕ) (ps : List Punct) (punct : Punct) → find (spells text) ps ≡ Some punct → text ≡ punct_spelling punct
found_text text [] punct found = absurd cc
found_text text (first ∷ ps) punct found =
    found_step text first punct (find (spells text) ps) (spells text first) refl (found_text text ps punct) found

pub punct_text : (text : List ℕ) (punct : Punct) → punctuator text ≡ Some punct → text ≡ punct_spelling punct
unfolding punctuator
punct_text text punct found = found_text text puncts punct found

pub punct_back : (punct : Punct) → punctuator (punct_spelling punct) ≡ Some punct
unfolding puncts punctuator
punct_back p.LeftBracket = refl
punct_back _ = refl

-- punctuators that are spelled alike are one
pub one_spelling : (a b : Punct) → punct_spelling a ≡ punct_spelling b → a ≡ b
one_spelling a b e = let same : Some a ≡ Some b = sym (punct_back a) ∙ ap punctuator e ∙ punct_back b in cc

pub same_punct_decides : (a b : Punct) → Decides (same_punct a b) (a ≡ b)
same_punct_decides a b = (
  λ e. one_spelling a b ((bytes_eq-Decides (punct_spelling a) (punct_spelling b)).0 e),
  λ e. (bytes_eq-Decides (punct_spelling a) (punct_spelling b)).1 (ap punct_spelling e),
)
