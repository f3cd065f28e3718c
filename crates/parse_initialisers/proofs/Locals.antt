-- A declaration in a block.
use Rattle.std.proofs.Common.{◌≡◌, max, List, Option, Some, None, Bool, length, refl}
use Rattle.std.specs.Prelude.{if◌then◌else◌}
use Rattle.c_tree.specs.declared.statements.Init.{Init}
use Rattle.parse_meaning.specs.Terminals.{Lexeme}
use Rattle.parse_meaning.specs.Specifiers.{block}
use Rattle.parse_meaning.specs.Statements.{are_objects}
use Rattle.parse_reading.specs.Reading.{Read, found, Specs, plain_spec, specs_in}
use Rattle.parse_reading.specs.ReadingDeclarators.{Named}
use Rattle.parse_reading.specs.ReadingStatements.{NamedInits, local}
use Rattle.parse_initialisers.specs.Readers.{init_declarators_from}
use Rattle.parse_initialisers.proofs.InitDeclarators.{from_first, no_first}

module _ (named : List Lexeme → Option (Read Named)) (init : List Lexeme → Option (Read Init)) (s : List Lexeme) (xs : Read Specs) where
  pub local_no_first : specs_in plain_spec block s ≡ Some xs → named xs.rest ≡ None → local named init s ≡ None
  unfolding local
  local_no_first specs none = rw (specs, no_first named init (length xs.rest) xs.rest none) refl

  module _ (x : Read Named) where
    pub local_fail : specs_in plain_spec block s ≡ Some xs → named xs.rest ≡ Some x →
        init_declarators_from named init (length xs.rest) x.tree x.height x.rest ≡ None → local named init s ≡ None
    unfolding local
    local_fail specs first none = rw (specs, from_first named init (length xs.rest) xs.rest x first, none) refl

    pub local_read : (ys : Read NamedInits) → specs_in plain_spec block s ≡ Some xs → named xs.rest ≡ Some x →
        init_declarators_from named init (length xs.rest) x.tree x.height x.rest ≡ Some ys → (b : Bool) → b ≡ are_objects ys.tree.declared →
        local named init s
        ≡ (if b then Some (found (record { specs = xs.tree.specs; declarators = ys.tree.trees }) (max xs.height ys.height) ys.rest)
        else None)
    unfolding local
    local_read ys specs first some b test = rw (specs, from_first named init (length xs.rest) xs.rest x first, some, test) refl
