-- The machine on the tokens of a slice.
use Rattle.std.proofs.Common.{◌≡◌, ℕ, suc, ◌<◌, ◌≤◌, true, List, [], ◌∷◌, length, get_or, drop, Option, None, option_map, sym, ap, ◌∙◌, drop-cons}
use Rattle.std.specs.Prelude.{option_and_then}
use Rattle.std.specs.Borrow.{Bor}
use Rattle.std.proofs.lemmas.List.{drop_all}
use Rattle.c_tokens.specs.declared.TokenKind.{TokenKind}
use Rattle.macro_conditions.specs.declared.values.Value.{Value}
use Rattle.macro_conditions.specs.Values.{is_true}
use Rattle.macro_conditions.specs.Machine.{Phase, wants, step, run, finish, decision}
use Rattle.macro_conditions.specs.Conditions.{now}

pub stops : (line : List (Bor TokenKind)) (i : ℕ) (k : Bor TokenKind) (ph : Phase) → i < length line → k ≡ get_or line i k
    → step ph k.now ≡ None
    → run ph (now (drop i line)) ≡ run (wants [] true) (now line) → None ≡ decision (now line)
stops line i k ph lt e s r =
    let d : now (drop i line) ≡ k.now ∷ now (drop (suc i) line) = ap now (drop-cons line i k lt)
    ∙ ap (λ (x : Bor TokenKind). x.now ∷ now (drop (suc i) line)) (sym e) in
    let h : run ph (now (drop i line)) ≡ None = ap (run ph) d ∙ ap (option_and_then (λ next. run next (now (drop (suc i) line)))) s in
    ap (option_map is_true) (sym h ∙ r)

pub ends : (line : List (Bor TokenKind)) (i : ℕ) (ph : Phase) (o : Option Value) → length line ≤ i → o ≡ finish ph
    → run ph (now (drop i line)) ≡ run (wants [] true) (now line) → option_map is_true o ≡ decision (now line)
ends line i ph o le f r =
    let h : run ph (now (drop i line)) ≡ finish ph = ap (λ (ks : List (Bor TokenKind)). run ph (now ks)) (drop_all i line le) in
    ap (option_map is_true) (f ∙ sym h ∙ r)
