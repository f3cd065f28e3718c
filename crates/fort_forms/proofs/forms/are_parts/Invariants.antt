-- The rest is compared as the whole is.
use Rattle.std.proofs.Common.{◌≡◌, drop, map}
use Rattle.macro_meaning.specs.Origins.{kinds as kinds_of}
use Rattle.fort_forms.specs.Reading.{part_kind, same_kinds}
use Rattle.fort_forms.proofs.forms.are_parts.Given as goal

abbrev pub invariant-loop-i : goal.invariant-loop-i
invariant-loop-i l = same_kinds (kinds_of (drop l.i l.tokens)) (map part_kind (drop l.i l.parts)) ≡ same_kinds (kinds_of l.tokens) (map part_kind l.parts)
