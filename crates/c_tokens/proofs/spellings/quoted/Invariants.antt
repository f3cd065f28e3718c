use Rattle.std.proofs.Common.{◌≡◌, ◌∷◌, take}
use Rattle.std.specs.List.{flat_map}
use Rattle.c_tokens.specs.Spelling.{escaped}
use Rattle.c_tokens.proofs.spellings.quoted.Given as goal

abbrev pub invariant-loop-b : goal.invariant-loop-b
invariant-loop-b l = l.out.items ≡ l.quote ∷ flat_map escaped (take l.b-index l.bytes)
