use Rattle.std.proofs.Common.{◌≡◌, drop, take}
use Rattle.std.specs.List.{position_from}
use Rattle.elab_meaning.specs.Scope.{is_named}
use Rattle.elab_scope.proofs.tags.first_among.Given as goal

abbrev pub invariant-loop-number : goal.invariant-loop-number
invariant-loop-number l = position_from (is_named l.name) l.number (drop l.number (take l.given l.tags)) ≡ position_from (is_named l.name) 0 (take l.given l.tags)
