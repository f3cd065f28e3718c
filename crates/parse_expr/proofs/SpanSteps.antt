-- How far a span goes, and what the reading of its tokens says.
use Rattle.std.proofs.Common.{◌≡◌, ℕ, zero, suc, ◌<◌, ◌≤◌, List, [], ◌∷◌, length, take, map, Some, None, Bool, true, false, refl, sym, ap, ◌∙◌, arith}
use Rattle.std.specs.Prelude.{if◌then◌else◌}
use Rattle.c_tokens.specs.declared.tokens.Token.{Token}
use Rattle.c_tree.specs.declared.nodes.Expr.{Expr}
use Rattle.c_tree.specs.Heights.{highest_tree}
use Rattle.parse_meaning.specs.Terminals.{Lexeme, lexeme}
use Rattle.parse_meaning.specs.Expressions.{IsExpr}
use Rattle.parse_meaning.specs.Spans.{ends, questions_after, brackets_after, span, Spells}
use Rattle.parse_reading.specs.Reading.{found, expression}
use Rattle.parse_reading.proofs.Complete.{Ends}
use Rattle.parse_reading.proofs.CompleteExprs.{expression_reads}
use Rattle.parse_reading.proofs.Sound.{expression_sound}
use Rattle.parse_expr.specs.declared.spans.ExprForm.{ExprForm}
use Rattle.parse_expr.specs.declared.spans.ExprForm.TheVariants.{Full, Assign, Cond}
use Rattle.parse_expr.specs.Forms.{level_of, ends_at_commas}
use Rattle.parse_leaves.proofs.Misses.{nothing_found, some_same}

-- ---- The tokens of a span

-- they are the first of the list
front_outside : (b : Bool) (o : Token) (rest s : List Token) → take (length rest) s ≡ rest
    → take (length (if b then [] else o ∷ rest)) (o ∷ s) ≡ (if b then [] else o ∷ rest)
front_outside true o rest s e = refl
front_outside false o rest s e = ap (λ t. o ∷ t) e

pub span_front : (commas : Bool) (brackets questions : ℕ) (s : List Token)
    → take (length (span commas brackets questions s)) s ≡ span commas brackets questions s
span_front commas brackets questions [] = refl
span_front commas zero questions (o ∷ s) =
    front_outside (ends commas questions o.kind) o _ s (span_front commas (brackets_after zero o.kind) (questions_after questions o.kind) s)
span_front commas (suc n) questions (o ∷ s) = ap (λ t. o ∷ t) (span_front commas (brackets_after (suc n) o.kind) questions s)

within_outside : (b : Bool) (o : Token) (rest s : List Token) → length rest ≤ length s
    → length (if b then [] else o ∷ rest) ≤ suc (length s)
within_outside true o rest s e = omega arith
within_outside false o rest s e = omega arith

pub span_within : (commas : Bool) (brackets questions : ℕ) (s : List Token) → length (span commas brackets questions s) ≤ length s
span_within commas brackets questions [] = omega arith
span_within commas zero questions (o ∷ s) =
    within_outside (ends commas questions o.kind) o _ s
    (span_within commas (brackets_after zero o.kind) (questions_after questions o.kind) s)
span_within commas (suc n) questions (o ∷ s) = omega (arith, span_within commas (brackets_after (suc n) o.kind) questions s)

-- ---- What reading says of a whole span

form_ends : (form : ExprForm) → Ends (level_of form) []
form_ends Full = record { stops = omega arith; last = omega arith }
form_ends Assign = record { stops = omega arith; last = omega arith }
form_ends Cond = record { stops = omega arith; last = omega arith }

nothing_behind : (t : List Lexeme) → length t ≡ 0 → t ≡ []
nothing_behind [] e = refl
nothing_behind (x ∷ t) e = absurd (omega arith)

module _ (types : List (List ℕ)) (form : ExprForm) (s : List Token) where
  -- the tokens that are read, and the level at which they are, as code finds them
  pub front_read : (commas : Bool) (level n : ℕ) (read : List Lexeme) → commas ≡ ends_at_commas form → level ≡ level_of form
      → n ≡ length (span commas 0 0 s)
      → read ≡ map (lexeme types) (take n s)
      → expression highest_tree level read ≡ expression highest_tree (level_of form) (map (lexeme types) (span (ends_at_commas form) 0 0 s))
  front_read commas level n read c l e r = rw (r, e, span_front commas 0 0 s, c, l) refl

  read_whole : (x : Expr) (h : ℕ) → h ≤ highest_tree → IsExpr (level_of form) (map (lexeme types) s) x h [] →
      expression highest_tree (level_of form) (map (lexeme types) s) ≡ Some (found x h [])
  read_whole x h low d = expression_reads highest_tree (level_of form) h (map (lexeme types) s) [] x d low (form_ends form)

  pub read_spells : (x : Expr) (h : ℕ) (t : List Lexeme) → length t ≡ 0
      → expression highest_tree (level_of form) (map (lexeme types) s) ≡ Some (found x h t) → Spells types (level_of form) s x
  read_spells x h t nothing_left e =
      let none = nothing_behind t nothing_left in
      let d = expression_sound highest_tree (level_of form) (map (lexeme types) s) in
      let f = rw (e, none) at d in
      record { height = h; low = f.low; derives = f.derives }

  pub none_spelled : expression highest_tree (level_of form) (map (lexeme types) s) ≡ None → (x : Expr)
      → ¬ (Spells types (level_of form) s x)
  none_spelled e x d = nothing_found (sym e ∙ read_whole x d.height d.low d.derives)

  pub more_left : (x : Expr) (h : ℕ) (t : List Lexeme) → 0 < length t
      → expression highest_tree (level_of form) (map (lexeme types) s) ≡ Some (found x h t) →
      (y : Expr) → ¬ (Spells types (level_of form) s y)
  more_left x h t some e y d =
      let same : found x h t ≡ found y d.height [] = some_same (sym e ∙ read_whole y d.height d.low d.derives) in
      let none : length t ≡ 0 = ap (λ r. length r.rest) same in
      absurd (omega arith)
