use Rattle.std.proofs.Common.{◌-◌, ◌≤◌, length, drop}
use Rattle.c_macros.specs.States.{state_view}
use Rattle.c_macros.proofs.Carried.{Carries}
use Rattle.c_macros.proofs.expansion.take_parts.Given as goal

abbrev pub invariant-parts : goal.invariant-parts
invariant-parts l = record {
  within : l.at ≤ length l.source;
  owed : Carries (state_view l.initial.st) (length l.source) l.source l.done.items (state_view l.st) l.count (drop l.at l.source);
}

abbrev pub decreases-parts : goal.decreases-parts
decreases-parts l = length l.source - l.at
