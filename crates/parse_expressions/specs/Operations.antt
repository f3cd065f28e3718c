-- What an expression goes on with behind a token.
use Rattle.std.specs.Prelude.{ℕ, nat_le, if◌then◌else◌, Bool, List, [], ◌∷◌, length, Option, Some, None}
use Rattle.fc_base.specs.declared.refusals.Place.{Place}
use Rattle.c_tokens.specs.declared.puncts.Punct.TheVariants as p
use Rattle.c_tree.specs.declared.nodes.Expr.{Expr}
use Rattle.parse_reading.specs.declared.operators.Operator.{Operator}
use Rattle.parse_reading.specs.declared.operators.Operator.TheVariants as role
use Rattle.parse_meaning.specs.declared.terminals.Terminal.TheVariants as k
use Rattle.parse_meaning.specs.Terminals.{Lexeme, at, text_of, is_tag}
use Rattle.parse_meaning.specs.Expressions.{conditional, assignment, expression as full}
use Rattle.parse_reading.specs.Reading.{◌>>=◌, Read, LeftOperand, found, after_right_paren, after_right_bracket, after_colon, operator_of, operator_takes, exprs}
use Rattle.parse_operations.specs.Operations.{tall, with_operation}
use Rattle.parse_operations.specs.declared.operations.Operation.{Operation}
use Rattle.parse_operations.specs.declared.operations.Operation.TheVariants as tail

-- a member's name
abbrev pub member_tail : Bool → List Lexeme → Option (Operation × List Lexeme)
member_tail arrow [] = None
member_tail arrow (at c q ∷ t) = if is_tag c then Some (tail.Member arrow (text_of q) q.place, t) else None

-- what the next token does to an expression before it, and the tokens behind it
abbrev pub next_operator : List Lexeme → Operator
next_operator [] = role.End
next_operator (at c o ∷ t) = operator_of c

abbrev pub behind_next : List Lexeme → List Lexeme
behind_next [] = []
behind_next (c ∷ t) = t

-- with a reader of expressions that are at most n high
module _ (n : ℕ) (sub : ℕ → List Lexeme → Option (Read Expr)) where
  -- an expression and its bracket
  abbrev pub bracketed : List Lexeme → Option (Read Expr)
  bracketed t = sub full t >>= λ y. after_right_bracket y.rest >>= λ u. Some (found y.tree y.height u)

  -- arguments and their bracket
  abbrev pub arguments_some : List Lexeme → Option (Read (List Expr))
  arguments_some t = exprs n sub (length t) t >>= λ xs. after_right_paren xs.rest >>= λ u. Some (found xs.tree xs.height u)

  abbrev pub arguments : List Lexeme → Option (Read (List Expr))
  arguments (at (k.Punct p.RightParen) o ∷ t) = Some (found [] 0 t)
  arguments t = arguments_some t

  -- an expression and its colon
  abbrev pub colon_ended : List Lexeme → Option (Read Expr)
  colon_ended t = sub full t >>= λ y. after_colon y.rest >>= λ u. Some (found y.tree y.height u)

  abbrev pub choice_tail : List Lexeme → Option (Operation × List Lexeme)
  choice_tail t = colon_ended t >>= λ y. sub conditional y.rest >>= λ z. Some (tail.Choice (tall y) (tall z), z.rest)

  abbrev pub tail_of : Operator → List Lexeme → Option (Operation × List Lexeme)
  tail_of role.Call t = arguments t >>= λ xs. Some (tail.Call (tall xs), xs.rest)
  tail_of role.Index t = bracketed t >>= λ y. Some (tail.Index (tall y), y.rest)
  tail_of (role.Member arrow) t = member_tail arrow t
  tail_of (role.Step b) t = Some (tail.Step b, t)
  tail_of role.Choice t = choice_tail t
  tail_of (role.Assign b) t = sub assignment t >>= λ y. Some (tail.Assign b (tall y), y.rest)
  tail_of (role.Join b l) t = sub l t >>= λ y. Some (tail.Join b l (tall y), y.rest)
  tail_of role.List t = exprs n sub (length t) t >>= λ xs. Some (tail.List (tall xs), xs.rest)
  tail_of role.Str t = None
  tail_of role.End t = None

  -- the same, if an expression of the level may go on so
  abbrev pub tail_behind : ℕ → Operator → List Lexeme → Option (Operation × List Lexeme)
  tail_behind l r t = if nat_le l (operator_takes r) then tail_of r t else None

  -- the expression with what follows a token of this role
  abbrev pub go_on : Place → ℕ → Expr → ℕ → Operator → Place → List Lexeme → Option LeftOperand
  go_on start l x h r place t = tail_behind l r t >>= λ y. Some (with_operation start x h y.0 place y.1)
