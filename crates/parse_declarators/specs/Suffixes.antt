-- A declarator step by step: what stands before its name, and how it goes on behind it (C11 6.7.6).
use Rattle.std.specs.Prelude.{ℕ, suc, max, List, [], ◌∷◌, Option, Some, None, Bool, true, false, if◌then◌else◌, length}
use Rattle.fc_base.specs.declared.refusals.Place.{Place}
use Rattle.c_tokens.specs.declared.puncts.Punct.TheVariants as p
use Rattle.c_tree.specs.declared.nodes.Expr.{Expr}
use Rattle.c_tree.specs.declared.nodes.Declarator.TheVariants as d
use Rattle.c_tree.specs.declared.nodes.Params.{Params}
use Rattle.parse_meaning.specs.declared.terminals.Terminal.TheVariants as k
use Rattle.parse_meaning.specs.Terminals.{Lexeme, at, text_of, place_of}
use Rattle.parse_meaning.specs.Expressions.{bare, parameters, other, behind}
use Rattle.parse_reading.specs.Reading.{Read, ◌>>=◌, found, bounded, after_left_paren, after_right_paren, after_left_bracket, pointer_words, bound}
use Rattle.parse_reading.specs.ReadingDeclarators.{Named, as_named, params_in, suffixes}
use Rattle.parse_declarators.specs.declared.declarators.Pointer.{Pointer}
use Rattle.parse_declarators.specs.declared.declarators.Opening.{Opening}
use Rattle.parse_declarators.specs.declared.declarators.Suffix.{Suffix}
use Rattle.parse_declarators.specs.declared.declarators.Suffix.TheVariants as suffix

-- whether a star comes next
abbrev pub begins_star : List Lexeme → Bool
begins_star (at (k.Punct p.Star) o ∷ t) = true
begins_star _ = false

-- what stands before a direct declarator, and the tokens behind it
abbrev pub pointer_at : List Lexeme → Option Pointer × List Lexeme
pointer_at s = if begins_star s then (Some (record { words = (pointer_words s).0; place = place_of s }), (pointer_words s).1) else (None, s)

abbrev pub opening_at : List Lexeme → Opening × List Lexeme
opening_at s = (record { pointer = (pointer_at s).0; start = place_of (pointer_at s).1 }, (pointer_at s).1)

-- whether a declarator in parentheses comes next, and the tokens behind its parenthesis
abbrev pub left_paren_at : List Lexeme → Bool × List Lexeme
left_paren_at (at (k.Punct p.LeftParen) o ∷ t) = (true, t)
left_paren_at t = (false, t)

-- how a declarator goes on
abbrev pub suffix_at : List Lexeme → Option Suffix
suffix_at (at (k.Punct p.LeftBracket) o ∷ t) = Some suffix.Array
suffix_at (at (k.Punct p.LeftParen) o ∷ t) = Some suffix.Function
suffix_at _ = None

-- the name that is declared
abbrev pub name_at : List Lexeme → Option (Read Named)
name_at (at k.Name o ∷ t) = Some (found (as_named (d.Name (text_of o) o.place) (record { name = text_of o; nearest = bare })) 1 t)
name_at _ = None

-- a declarator with a bound behind it, or with parameters
abbrev pub with_bound : Place → Read Named → Read (Option Expr) → Read Named
with_bound start x y = found (as_named (d.Array x.tree.tree y.tree start) (behind x.tree.declared other)) (suc (max x.height y.height)) y.rest

abbrev pub with_params : Place → Read Named → Read Params → Read Named
with_params start x y = found (as_named (d.Function x.tree.tree y.tree start) (behind x.tree.declared parameters)) (suc (max x.height y.height)) y.rest

-- a bound in its brackets, with a reader of expressions
abbrev pub bracketed : (ℕ → List Lexeme → Option (Read Expr)) → List Lexeme → Option (Read (Option Expr))
bracketed sub s = after_left_bracket s >>= λ t. bound sub t

-- with the most that a tree may be high, and readers of expressions and of declarators in parameters
module _ (limit : ℕ) (sub : ℕ → List Lexeme → Option (Read Expr)) (deep : List Lexeme → Option (Read Named)) where
  abbrev pub params_at : List Lexeme → Option (Read Params)
  params_at s = after_left_paren s >>= λ t. params_in limit sub deep t

  abbrev pub array_at : Place → Read Named → List Lexeme → Option (Read Named)
  array_at start x s = bracketed sub s >>= λ y. bounded limit (with_bound start x y)

  abbrev pub function_at : Place → Read Named → List Lexeme → Option (Read Named)
  function_at start x s = params_at s >>= λ y. bounded limit (with_params start x y)

-- a direct declarator, which may be what a pointer stands before
abbrev pub pointed : Option Pointer → Read Named → Read Named
pointed None x = x
pointed (Some pointer) x =
    found (as_named (d.Pointer pointer.words x.tree.tree pointer.place) (behind x.tree.declared other)) (suc x.height) x.rest

module _ (limit : ℕ) (sub : ℕ → List Lexeme → Option (Read Expr)) (deep : List Lexeme → Option (Read Named)) where
  -- the declarator, where its name or what stands in its parentheses has been read
  abbrev pub closed : Opening → Read Named → Option (Read Named)
  closed opening x = suffixes limit sub deep (length x.rest) opening.start x >>= λ y. Some (pointed opening.pointer y)

  -- one whose name has not been read
  abbrev pub inmost_at : Opening → List Lexeme → Option (Read Named)
  inmost_at opening s = name_at s >>= λ x. closed opening x

  -- one that stands in the parentheses of the next, the inmost of them last
  abbrev pub in_parens : Opening → Option (Read Named) → Option (Read Named)
  in_parens opening r = do
    x ← r
    u ← after_right_paren x.rest
    closed opening (found x.tree x.height u)

  unfoldable pub around : List Opening → Option (Read Named) → Option (Read Named)
  around [] r = r
  around (opening ∷ openings) r = in_parens opening (around openings r)
