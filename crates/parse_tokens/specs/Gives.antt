-- What a function that parses ensures: what reading finds, unless memory fails.
use Rattle.std.specs.Prelude.{◌≡◌, ◌≢◌, ◌≤◌, ℕ, ◌+◌, List, length, Option, Some, None, Result, Ok, Err}
use Rattle.parse_meaning.specs.Terminals.{Lexeme}
use Rattle.parse_reading.specs.Reading.{Read, found}
use Rattle.parse_tokens.specs.declared.faults.ParseFault.{ParseFault}
use Rattle.parse_tokens.specs.declared.faults.ParseFault.TheVariants as fault
use Rattle.parse_tokens.specs.declared.faults.WithHeight.{WithHeight}

-- a tree with its height, and the tokens that are left
abbrev pub Gives : {A : Type 0} → Option (Read A) → Result (WithHeight A) ParseFault → List Lexeme → Type 0
Gives read (Ok x) new = read ≡ Some (found x.tree x.height new)
Gives read (Err e) new = e ≢ fault.NoMemory → read ≡ None

-- the same of a tree that the definitions see in their own way
abbrev pub GivesAs : {X A : Type 0} → (X → A) → Option (Read A) → Result (WithHeight X) ParseFault → List Lexeme → Type 0
GivesAs see read (Ok x) new = read ≡ Some (found (see x.tree) x.height new)
GivesAs see read (Err e) new = e ≢ fault.NoMemory → read ≡ None

-- a part without a height
abbrev pub GivesPart : {A : Type 0} → Option (A × List Lexeme) → Result A ParseFault → List Lexeme → Type 0
GivesPart read (Ok x) new = read ≡ Some (x, new)
GivesPart read (Err e) new = e ≢ fault.NoMemory → read ≡ None

-- a step without a tree
abbrev pub Passes : Option (List Lexeme) → Result (Unit {0}) ParseFault → List Lexeme → Type 0
Passes read (Ok x) new = read ≡ Some new
Passes read (Err e) new = e ≢ fault.NoMemory → read ≡ None

-- a tree is no higher than a number and the tokens that were taken
abbrev pub Low : {A : Type 0} → ℕ → Result (WithHeight A) ParseFault → List Lexeme → List Lexeme → Type 0
Low depth (Ok x) old new = x.height + length new ≤ depth + length old
Low depth (Err e) old new = Unit {0}
