-- What an expression begins with, in the parts in which it is read.
use Rattle.std.specs.Prelude.{ℕ, suc, max, List, ◌∷◌, Option, Some, Bool, true, false, if◌then◌else◌}
use Rattle.fc_base.specs.declared.refusals.Place.{Place}
use Rattle.c_tokens.specs.declared.puncts.Punct.TheVariants as p
use Rattle.c_tree.specs.declared.nodes.Expr.{Expr}
use Rattle.c_tree.specs.declared.nodes.ExprKind.TheVariants as e
use Rattle.c_tree.specs.declared.nodes.TypeName.{TypeName}
use Rattle.parse_meaning.specs.declared.terminals.Terminal.TheVariants as k
use Rattle.parse_meaning.specs.Terminals.{Lexeme, at}
use Rattle.parse_meaning.specs.Expressions.{expr, cast, conditional, assignment}
use Rattle.parse_reading.specs.Reading.{◌>>=◌, Read, LeftOperand, found, left, begins_spec, after_left_paren, after_right_paren, after_comma, type_name, sized_expr}

-- a parenthesis without the name of a type behind it
abbrev pub opens_group : List Lexeme → Bool
opens_group (at (k.Punct p.LeftParen) o ∷ t) = if begins_spec t then false else true
opens_group _ = false

-- with a reader of expressions that are at most n high
module _ (n : ℕ) (sub : ℕ → List Lexeme → Option (Read Expr)) where
  -- a type name and its bracket
  abbrev pub closed_type : List Lexeme → Option (Read TypeName)
  closed_type t = type_name n sub t >>= λ m. after_right_paren m.rest >>= λ u. Some (found m.tree m.height u)

  abbrev pub converted : Place → List Lexeme → Option LeftOperand
  converted place t = closed_type t >>= λ m. sub cast m.rest >>= λ x. Some (left 3 (expr (e.Cast m.tree x.tree) place) (suc (max m.height x.height)) x.rest)

  abbrev pub sized_type : Place → List Lexeme → Option LeftOperand
  sized_type place t = closed_type t >>= λ m. Some (left 2 (expr (e.SizeofType m.tree) place) (suc m.height) m.rest)

  abbrev pub sized : Place → List Lexeme → Option LeftOperand
  sized place (at (k.Punct p.LeftParen) q ∷ t) = if begins_spec t then sized_type place t else sized_expr n sub place (at (k.Punct p.LeftParen) q ∷ t)
  sized place t = sized_expr n sub place t

  -- the first argument of the size function, between its bracket and the comma; the second, and the bracket that closes
  abbrev pub comma_ended : List Lexeme → Option (Read Expr)
  comma_ended s = after_left_paren s >>= λ t. sub assignment t >>= λ x. after_comma x.rest >>= λ u. Some (found x.tree x.height u)

  abbrev pub paren_ended : List Lexeme → Option (Read Expr)
  paren_ended t = sub conditional t >>= λ y. after_right_paren y.rest >>= λ v. Some (found y.tree y.height v)

  abbrev pub size_called : Place → List Lexeme → Option LeftOperand
  size_called place s = comma_ended s >>= λ x. paren_ended x.rest >>= λ y. Some (left 1 (expr (e.SizeCall x.tree y.tree) place) (suc (max x.height y.height)) y.rest)
