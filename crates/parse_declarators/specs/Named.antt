-- What a function that reads a declarator ensures.
use Rattle.std.specs.Prelude.{◌≡◌, ◌≢◌, ℕ, suc, ◌+◌, ◌^◌, ◌<◌, List, length, Option, None, Result, Ok, Err}
use Rattle.parse_meaning.specs.Terminals.{Lexeme}
use Rattle.parse_meaning.specs.Expressions as g
use Rattle.parse_reading.specs.Reading.{Read, Specs, found, expression}
use Rattle.parse_reading.specs.ReadingDeclarators as spec
use Rattle.parse_reading.specs.ReadingDeclarators.{as_named, whole, declarator}
use Rattle.parse_tokens.specs.Rooms.{height_room}
use Rattle.parse_tokens.specs.declared.faults.ParseFault.{ParseFault}
use Rattle.parse_tokens.specs.declared.faults.ParseFault.TheVariants as fault
use Rattle.parse_tokens.specs.declared.faults.WithHeight.{WithHeight}
use Rattle.parse_tokens.specs.Gives.{GivesAs}
use Rattle.parse_leaves.specs.declared.specifiers.SpecList.{SpecList}
use Rattle.parse_leaves.specs.Counts.{specs_of}
use Rattle.parse_declarators.specs.declared.named.Nearest.{Nearest}
use Rattle.parse_declarators.specs.declared.named.Nearest.TheVariants as nearest
use Rattle.parse_declarators.specs.declared.named.Named.{Named}
use Rattle.parse_declarators.specs.declared.declarators.Openings.{Openings}
use Rattle.parse_declarators.specs.Suffixes.{closed, around}

abbrev pub nearest_of : Nearest → g.Nearest
nearest_of nearest.Bare = g.bare
nearest_of nearest.Parameters = g.parameters
nearest_of nearest.Other = g.other

abbrev pub named_of : Named → spec.Named
named_of x = as_named x.tree (record { name = x.name.now; nearest = nearest_of x.nearest })

-- the declarator that has been found, with the tokens behind it
abbrev pub as_read : WithHeight Named → List Lexeme → Read spec.Named
as_read x t = found (named_of x.tree) x.height t

abbrev pub GivesNamed : Option (Read spec.Named) → Result (WithHeight Named) ParseFault → List Lexeme → Type 0
GivesNamed = GivesAs named_of

-- the name of a declarator has been read, and what stands before it: the declarator is what these and the tokens behind give
abbrev pub GivesOpenings : List Lexeme → Result (Openings × WithHeight Named) ParseFault → List Lexeme → Type 0
GivesOpenings s (Ok x) t =
    (n : ℕ) → whole (suc n) (expression n) (declarator n) (suc (length s)) s ≡ around (suc n) (expression n) (declarator n) x.0.outer (closed (suc n) (expression n) (declarator n) x.0.inmost (as_read x.1 t))
GivesOpenings s (Err e) t = e ≢ fault.NoMemory → (n : ℕ) → whole (suc n) (expression n) (declarator n) (suc (length s)) s ≡ None

-- the specifiers that have been found, with the tokens behind them
abbrev pub as_specs : WithHeight SpecList → List Lexeme → Read Specs
as_specs xs t = found (specs_of xs.tree) xs.height t

-- a height that stays within 64 bits, whatever the tokens that are left add to it
abbrev pub HasRoom : ℕ → List Lexeme → Type 0
HasRoom height s = (length s < 2 ^ 63) × (height + length s < 2 ^ 63 + height_room)
