-- Lists of specifiers and what they count as, as plain data.
use Rattle.std.specs.Prelude.{◌≡◌, ◌≢◌, ℕ, ◌+◌, List, ◌∷◌, true, Option, None, Result, Ok, Err}
use Rattle.c_tokens.specs.declared.tokens.Token.{Token}
use Rattle.c_tree.specs.declared.nodes.Identifier.{Identifier}
use Rattle.c_tree.specs.declared.nodes.Spec.{Spec}
use Rattle.parse_meaning.specs.declared.terminals.Terminal.{Terminal}
use Rattle.parse_meaning.specs.Terminals.{Lexeme, at, is_tag}
use Rattle.parse_meaning.specs.Expressions.{identifier}
use Rattle.parse_meaning.specs.Specifiers as g
use Rattle.parse_meaning.specs.Specifiers.{outer, inner, block}
use Rattle.parse_reading.specs.Reading.{Read, Counted, Specs, tag}
use Rattle.parse_tokens.specs.declared.faults.ParseFault.{ParseFault}
use Rattle.parse_tokens.specs.declared.faults.ParseFault.TheVariants as fault
use Rattle.parse_tokens.specs.declared.faults.WithHeight.{WithHeight}
use Rattle.parse_tokens.specs.Gives.{GivesAs}
use Rattle.parse_leaves.specs.declared.tallies.Context.{Context}
use Rattle.parse_leaves.specs.declared.tallies.Context.TheVariants.{Outer, Inner, Block}
use Rattle.parse_leaves.specs.declared.tallies.Tally.{Tally}
use Rattle.parse_leaves.specs.declared.specifiers.Counted as held
use Rattle.parse_leaves.specs.declared.specifiers.SpecList.{SpecList}

abbrev pub context_of : Context → g.Context
context_of Outer = outer
context_of Inner = inner
context_of Block = block

abbrev pub tally_of : Tally → g.Tally
tally_of a = record {
  typedef = a.typedef;
  extern = a.extern_;
  static = a.static_;
  inline = a.inline;
  whole = a.whole;
  void = a.void;
  char = a.char;
  short = a.short;
  int = a.int;
  long = a.long;
  signed = a.signed;
  unsigned = a.unsigned;
}

-- how many specifiers were counted
abbrev pub total : Tally → ℕ
total a = a.typedef + a.extern_ + a.static_ + a.inline + a.whole + a.void + a.char + a.short + a.int + a.long + a.signed + a.unsigned

-- one specifier, and a list of them
abbrev pub counted_of : held.Counted → Counted
counted_of x = record { spec = x.spec; tally = tally_of x.tally }

abbrev pub specs_of : SpecList → Specs
specs_of xs = record { specs = xs.specs; tally = tally_of xs.tally }

-- with the height and the tokens that are left
abbrev pub GivesCounted : Option (Read Counted) → Result (WithHeight held.Counted) ParseFault → List Lexeme → Type 0
GivesCounted = GivesAs counted_of

abbrev pub GivesSpecs : Option (Read Specs) → Result (WithHeight SpecList) ParseFault → List Lexeme → Type 0
GivesSpecs = GivesAs specs_of

-- the tag that comes next
abbrev pub GivesTag : List Lexeme → Result Identifier ParseFault → List Lexeme → Type 0
GivesTag old (Ok x) new = (c : Terminal) × (q : Token) × (old ≡ at c q ∷ new) × (is_tag c ≡ true) × (x ≡ identifier q)
GivesTag old (Err e) new = e ≢ fault.NoMemory → (x : Token → Spec) → tag x old ≡ None
