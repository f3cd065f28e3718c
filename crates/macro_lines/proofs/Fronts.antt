-- What a list of tokens begins with, by its length.
use Rattle.std.proofs.Common.{◌≡◌, ℕ, ◌<◌, ◌≤◌, ◌==◌, Bool, true, false, List, [], ◌∷◌, length, take, drop, get_or, refl, sym, ap, ◌∙◌, arith, add-one}
use Rattle.std.specs.List.{prefix_len}
use Rattle.std.proofs.lemmas.Bool.Decides.{nat_tests}
use Rattle.c_tokens.specs.declared.Token.{Token}
use Rattle.macro_meaning.specs.Lines.{is_directive, in_text, in_line, nothing, text, text_or_directive, part_of}
use Rattle.macro_lines.specs.declared.lines.GroupPart.TheVariants.{Line}
use Rattle.macro_lines.specs.Lines.{PartIs}

pub front_none : (ts : List Token) → length ts ≡ 0 → part_of ts ≡ nothing
unfolding part_of
front_none [] e = refl
front_none (t ∷ ts) e = cc

pub front_line : (ts : List Token) (d : Token) (n : ℕ) → 0 < length ts → is_directive (get_or ts 0 d) ≡ true
    → n ≡ prefix_len in_line (drop 1 ts) → n ≤ length (drop 1 ts) → PartIs ts (Line n)
unfolding part_of
front_line [] d n lt e p le = absurd (omega arith)
front_line (t ∷ ts) d n lt e p le = (t, rw (e, add-one, p) refl, refl, omega arith)

pub front_text : (ts : List Token) (d : Token) (n : ℕ) → 0 < length ts → is_directive (get_or ts 0 d) ≡ false → n ≡ prefix_len in_text ts
    → part_of ts ≡ text (take n ts) (drop n ts)
unfolding part_of
front_text [] d n lt e p = absurd (omega arith)
front_text (t ∷ ts) d n lt e p = ap (λ (v : Bool). text_or_directive v t ts) e ∙ rw p refl

pub text_some : (ts : List Token) (d : Token) → 0 < length ts → is_directive (get_or ts 0 d) ≡ false → 1 ≤ prefix_len in_text ts
text_some [] d lt e = absurd (omega arith)
text_some (t ∷ ts) d lt e = rw e (omega arith)

pub some_item : (z : List Token) → (length z == 0) ≡ false → 0 < length z
some_item z e = grind (arith, nat_tests)

pub no_item : (z : List Token) → (length z == 0) ≡ true → length z ≡ 0
no_item z e = grind (arith, nat_tests)

pub here : (ts : List Token) (d : Token) (b : Bool) → d ≡ get_or ts 0 d → is_directive d ≡ b → is_directive (get_or ts 0 d) ≡ b
here ts d b e h = ap is_directive (sym e) ∙ h
