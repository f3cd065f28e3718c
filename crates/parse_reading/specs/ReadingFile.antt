-- How external declarations and files are read: functions that compute what the grammar has, as in Reading. The contracts
-- of the parsers name them.
use Rattle.std.specs.Prelude.{ℕ, zero, suc, pred, max, ◌-◌, List, [], ◌∷◌, ◌++◌, map, drop, length, Option, Some, None, Ok, Err}
use Rattle.fc_base.specs.declared.refusals.Place.{Place}
use Rattle.c_tokens.specs.declared.puncts.Punct.TheVariants as p
use Rattle.c_tokens.specs.declared.tokens.Token.{Token}
use Rattle.c_tokens.specs.declared.tokens.TokenKind.{TokenKind}
use Rattle.c_tokens.specs.declared.tokens.TokenKind.TheVariants as kind
use Rattle.c_tree.specs.declared.statements.Stmt.TheVariants as s
use Rattle.c_tree.specs.declared.externals.External.{External}
use Rattle.c_tree.specs.declared.externals.External.TheVariants as x
use Rattle.c_tree.specs.Heights.{highest_tree}
use Rattle.parse_meaning.specs.declared.terminals.Terminal.TheVariants as k
use Rattle.parse_meaning.specs.Terminals.{Lexeme, at, lexeme, place_of, header_types}
use Rattle.parse_meaning.specs.Specifiers.{outer}
use Rattle.parse_meaning.specs.File.{type_names, Declarations, behind}
use Rattle.parse_reading.specs.Reading.{Read, ◌>>=◌, found, bounded, Specs, specs_in, expression}
use Rattle.parse_reading.specs.ReadingDeclarators.{Named, declarator, outer_spec}
use Rattle.parse_reading.specs.ReadingStatements.{initialiser, init_declarators, local, items, statement}

-- how high the parts of an external declaration may be
abbrev pub highest_part : ℕ
highest_part = pred highest_tree

-- an external declaration, and the names of types that it makes
pub record NamedExternal : Type 0 where
  pub tree : External
  pub names : List (List ℕ)

abbrev pub as_external : External → List (List ℕ) → NamedExternal
as_external x names = record { tree = x; names = names }

abbrev pub header_read : TokenKind → Place → List Lexeme → Option (Read NamedExternal)
header_read (kind.Header id) place t = Some (found (as_external (x.Header id place) (header_types id)) 1 t)
header_read _ place t = None

-- whose parts are at most n high
module _ (n : ℕ) where
  unfoldable pub declared : Place → Read Specs → List Lexeme → Option (Read NamedExternal)
  declared place xs t = do
    ys ← init_declarators (declarator n) (initialiser n) (length t) t
    bounded (suc n) (found (as_external (x.Declaration xs.tree.specs ys.tree.trees place) (type_names xs.tree.tally ys.tree.declared))
        (suc (max xs.height ys.height)) ys.rest)

  unfoldable pub body : Place → Read Specs → Read Named → Place → List Lexeme → Option (Read NamedExternal)
  body place xs y start u = do
    zs ← items (expression n) (local (declarator n) (initialiser n)) (statement n) (length u) u
    bounded (suc n) (found (as_external (x.Function xs.tree.specs y.tree.tree (s.Block zs.tree start) place)
        (type_names xs.tree.tally (y.tree.declared ∷ [])))
        (suc (max xs.height (max y.height (suc zs.height)))) zs.rest)

  -- behind the first declarator
  abbrev pub body_or : Place → Read Specs → List Lexeme → Read Named → List Lexeme → Option (Read NamedExternal)
  body_or place xs t y (at (k.Punct p.LeftBrace) o ∷ u) = body place xs y o.place u
  body_or place xs t y _ = declared place xs t

  unfoldable pub declaration : Place → Read Specs → List Lexeme → Option (Read NamedExternal)
  declaration place xs t = declarator n t >>= λ y. body_or place xs t y y.rest

  -- behind the specifiers
  abbrev pub external_behind : Place → Read Specs → List Lexeme → Option (Read NamedExternal)
  external_behind place xs (at (k.Punct p.Semicolon) o ∷ t) = bounded (suc n)
      (found (as_external (x.Declaration xs.tree.specs [] place) []) (suc xs.height) t)
  external_behind place xs t = declaration place xs t

  unfoldable pub specified : List Lexeme → Option (Read NamedExternal)
  specified a = specs_in (outer_spec n) outer a >>= λ xs. external_behind (place_of a) xs xs.rest

  abbrev pub external : List Lexeme → Option (Read NamedExternal)
  external (at k.Header o ∷ t) = header_read o.kind o.place t
  external a = specified a

  -- ---- A file; the number bounds the turns

  abbrev pub goes_on : (List (List ℕ) → List Token → Declarations) → List (List ℕ) → Token → List Token → Option (Read NamedExternal) →
      Declarations
  goes_on more types o s None = Err o.place
  goes_on more types o s (Some r) = behind r.tree.tree (more (types ++ r.tree.names) (drop (length (o ∷ s) - length r.rest) (o ∷ s)))

  unfoldable pub file : ℕ → List (List ℕ) → List Token → Declarations
  file m types [] = Ok []
  file zero types (o ∷ s) = Err o.place
  file (suc m) types (o ∷ s) = goes_on (file m) types o s (external (map (lexeme types) (o ∷ s)))
