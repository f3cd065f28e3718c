-- The readers of one depth, and what stands before and behind the parts of a list.
use Rattle.std.specs.Prelude.{◌≤◌, ℕ, zero, suc, max, ◌+◌, ◌*◌, ◌^◌, List, ◌∷◌, Option, Some, None, Bool, true, false, Result, IfOk, length}
use Rattle.c_tokens.specs.declared.puncts.Punct.TheVariants as p
use Rattle.c_tree.specs.declared.statements.Init.{Init}
use Rattle.parse_meaning.specs.declared.terminals.Keyword.TheVariants as w
use Rattle.parse_meaning.specs.declared.terminals.Terminal.TheVariants as k
use Rattle.parse_meaning.specs.Terminals.{Lexeme, at}
use Rattle.parse_reading.specs.Reading.{Read, ◌>>=◌, found}
use Rattle.parse_reading.specs.ReadingDeclarators.{declarator, Named}
use Rattle.parse_reading.specs.ReadingStatements as r
use Rattle.parse_reading.specs.ReadingStatements.{initialiser, as_init, attribute_lists, init_declarators, init_declarators_behind, NamedInit, NamedInits, Local}
use Rattle.parse_tokens.specs.declared.faults.ParseFault.{ParseFault}
use Rattle.parse_tokens.specs.declared.faults.WithHeight.{WithHeight}

-- A tree has at most two nodes for each level of its depth, and a declarator's. Declarators have no limit of their own
-- but the number of tokens.
abbrev pub Within : {A : Type 0} → ℕ → Result (WithHeight A) ParseFault → Type 0
Within depth result = IfOk result (λ x. x.height ≤ 2 * depth + 2 ^ 63)

-- declarations in a block
abbrev pub locals : ℕ → List Lexeme → Option (Read Local)
locals n = r.local (declarator n) (initialiser n)

-- the word that begins an attribute list, if it comes next
abbrev pub attribute_at : List Lexeme → Bool × List Lexeme
attribute_at (at (k.Word w.Attribute) o ∷ t) = (true, t)
attribute_at s = (false, s)

-- an initialiser with its sign, or none
module _ (init : List Lexeme → Option (Read Init)) where
  unfoldable pub init_some : List Lexeme → Option (Read (Option Init))
  init_some t = init t >>= λ y. Some (found (Some y.tree) y.height y.rest)

  abbrev pub init_at : List Lexeme → Option (Read (Option Init))
  init_at (at (k.Punct p.Assign) o ∷ t) = init_some t
  init_at s = Some (found None 0 s)

-- init declarators, where the first declarator and its height have been read; the number bounds the turns
module _ (named : List Lexeme → Option (Read Named)) (init : List Lexeme → Option (Read Init)) where
  unfoldable pub init_declarator_from : Named → ℕ → List Lexeme → Option (Read NamedInit)
  init_declarator_from x h s = do
    xs ← attribute_lists (length s) s
    y ← init_at init xs.1
    Some (found (as_init x.tree xs.0 y.tree x.declared) (max h y.height) y.rest)

  unfoldable pub init_declarators_from : ℕ → Named → ℕ → List Lexeme → Option (Read NamedInits)
  init_declarators_from zero x h s = None
  init_declarators_from (suc m) x h s = init_declarator_from x h s >>= λ y. init_declarators_behind named init (init_declarators named init m) y y.rest
