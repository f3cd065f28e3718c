-- What functions that read external declarations ensure.
use Rattle.std.specs.Prelude.{ℕ, suc, max, List, ◌∷◌, Option, Bool, true, false}
use Rattle.fc_base.specs.declared.refusals.Place.{Place}
use Rattle.c_tokens.specs.declared.puncts.Punct.TheVariants as p
use Rattle.c_tree.specs.declared.externals.External.TheVariants as x
use Rattle.parse_meaning.specs.declared.terminals.Terminal.TheVariants as k
use Rattle.parse_meaning.specs.Terminals.{Lexeme, at}
use Rattle.parse_meaning.specs.File.{type_names}
use Rattle.parse_reading.specs.Reading.{Read, ◌>>=◌, found, bounded, Specs}
use Rattle.parse_reading.specs.ReadingDeclarators as g
use Rattle.parse_reading.specs.ReadingDeclarators.{declarator}
use Rattle.parse_reading.specs.ReadingStatements.{initialiser}
use Rattle.parse_reading.specs.ReadingFile as r
use Rattle.parse_reading.specs.ReadingFile.{as_external}
use Rattle.parse_initialisers.specs.Readers.{init_declarators_from}
use Rattle.parse_externals.specs.declared.externals.NamedExternal.{NamedExternal}

abbrev pub external_of : NamedExternal → r.NamedExternal
external_of x = as_external x.tree x.names

-- a declaration whose first declarator and its height have been read; the first number bounds the height of its parts,
-- the second the turns
unfoldable pub declared_from : ℕ → Place → Specs → ℕ → ℕ → g.Named → ℕ → List Lexeme → Option (Read r.NamedExternal)
declared_from n place xs j turns y h s = do
  ys ← init_declarators_from (declarator n) (initialiser n) turns y h s
  bounded (suc n) (found (as_external (x.Declaration xs.specs ys.tree.trees place) (type_names xs.tally ys.tree.declared)) (suc (max j ys.height)) ys.rest)

-- the brace that begins a body, if it comes next
abbrev pub brace_at : List Lexeme → Bool × List Lexeme
brace_at (at (k.Punct p.LeftBrace) o ∷ t) = (true, t)
brace_at s = (false, s)
