-- What the loop over a file ensures.
use Rattle.std.specs.Prelude.{◌≡◌, List, Result, Ok, Err}
use Rattle.fc_base.specs.declared.refusals.Fault.{Fault}
use Rattle.fc_base.specs.declared.refusals.Fault.TheVariants as refused
use Rattle.fc_base.specs.declared.rules.Rule.TheVariants as rule
use Rattle.c_tree.specs.declared.externals.External.{External}
use Rattle.parse_meaning.specs.File.{Declarations}

-- the declarations are those, or the first that is none is refused, unless memory ran out
abbrev pub IsRead : Declarations → Result (List External) Fault → Type 0
IsRead read (Ok xs) = read ≡ Ok xs
IsRead read (Err refused.NoMemory) = Unit {0}
IsRead read (Err (refused.Refused r)) = (r.rule ≡ rule.Syntax) × (read ≡ Err r.place)
