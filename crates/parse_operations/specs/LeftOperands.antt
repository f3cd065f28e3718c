-- An expression so far: what has been read of it, and its level.
use Rattle.std.specs.Prelude.{◌≡◌, ◌≢◌, List, Option, Some, None, Result, Ok, Err}
use Rattle.parse_meaning.specs.Terminals.{Lexeme}
use Rattle.parse_reading.specs.Reading.{LeftOperand, left}
use Rattle.parse_tokens.specs.declared.faults.ParseFault.{ParseFault}
use Rattle.parse_tokens.specs.declared.faults.ParseFault.TheVariants as fault
use Rattle.parse_operations.specs.declared.left_operands.LeftOperand as held

abbrev pub as_left_operand : held.LeftOperand → List Lexeme → LeftOperand
as_left_operand x t = left x.level x.tree x.height t

-- what a function that reads on ensures, unless memory fails
abbrev pub GivesLeftOperand : Option LeftOperand → Result held.LeftOperand ParseFault → List Lexeme → Type 0
GivesLeftOperand read (Ok x) new = read ≡ Some (as_left_operand x new)
GivesLeftOperand read (Err e) new = e ≢ fault.NoMemory → read ≡ None
