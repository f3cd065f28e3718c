-- What stands between braces, and the tokens that end an expression which may be left out.
use Rattle.std.specs.Prelude.{ℕ, List, ◌∷◌, Option, Some, None, Bool, true, false, if◌then◌else◌}
use Rattle.c_tokens.specs.declared.puncts.Punct.TheVariants as p
use Rattle.c_tree.specs.declared.nodes.Expr.{Expr}
use Rattle.c_tree.specs.declared.statements.Stmt.{Stmt}
use Rattle.parse_meaning.specs.declared.terminals.Keyword.TheVariants as w
use Rattle.parse_meaning.specs.declared.terminals.Terminal.TheVariants as k
use Rattle.parse_meaning.specs.Terminals.{Lexeme, at}
use Rattle.parse_reading.specs.Reading.{Read, ◌>>=◌, begins_spec, expression, after_right_paren}
use Rattle.parse_reading.specs.ReadingStatements.{after_semicolon, after_left_brace, after_while, statement, declared_item, label, begins_label, items, labelled, cases, condition}
use Rattle.parse_statements.specs.declared.statements.Beside.{Beside}
use Rattle.parse_statements.specs.declared.statements.Beside.TheVariants as beside
use Rattle.parse_statements.specs.declared.optional.End.{End}
use Rattle.parse_statements.specs.declared.optional.End.TheVariants as end
use Rattle.parse_initialisers.specs.Readers.{locals}

abbrev pub after_end : End → List Lexeme → Option (List Lexeme)
after_end end.Semicolon s = after_semicolon s
after_end end.RightParen s = after_right_paren s

-- whether a token has been taken, and the tokens that are left
abbrev pub taken : Option (List Lexeme) → List Lexeme → Bool × List Lexeme
taken (Some t) s = (true, t)
taken None s = (false, s)

-- what may stand first in the braces of a switch, and the brace that closes them
abbrev pub begins_cases : List Lexeme → Bool
begins_cases (at (k.Punct p.RightBrace) o ∷ t) = true
begins_cases (at (k.Word w.Case) o ∷ t) = true
begins_cases (at (k.Word w.Default) o ∷ t) = true
begins_cases _ = false

-- with parts that are at most n high
module _ (n : ℕ) where
  abbrev pub item_of : Beside → List Lexeme → Option (Read Stmt)
  item_of beside.Declarations a =
      if begins_spec a then declared_item (expression n) (locals n) (statement n) a else statement n a
  item_of beside.Labels a = if begins_label (expression n) (locals n) (statement n) a then label (expression n) (locals n) (statement n) a else statement n a

  -- the number bounds the turns
  abbrev pub stmts_of : Beside → ℕ → List Lexeme → Option (Read (List Stmt))
  stmts_of beside.Declarations m a = items (expression n) (locals n) (statement n) m a
  stmts_of beside.Labels m a = labelled (expression n) (locals n) (statement n) m a

  abbrev pub braced_cases_of : List Lexeme → Option (Read (List Stmt))
  braced_cases_of a = after_left_brace a >>= λ t. cases (expression n) (locals n) (statement n) t

  -- the test of a `do`, with its word
  abbrev pub do_test_of : List Lexeme → Option (Read Expr)
  do_test_of a = after_while a >>= λ t. condition (expression n) (locals n) (statement n) t
