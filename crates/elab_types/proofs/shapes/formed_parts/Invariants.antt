use Rattle.std.proofs.Common.{◌≡◌, ◌≤◌, length, drop}
use Rattle.elab_types.specs.Forming.{unformed}
use Rattle.elab_types.specs.Shapes.{formed_on}
use Rattle.elab_types.proofs.shapes.formed_parts.Given as goal

-- what the parts from here on make
abbrev pub invariant-loop-left : goal.invariant-loop-left
invariant-loop-left l = record {
  few : l.left ≤ length l.parts;
  made : l.formed ≡ formed_on l.tags (drop l.left l.parts) (unformed l.tags l.fn.ctype);
}

abbrev pub decreases-loop-left : goal.decreases-loop-left
decreases-loop-left l = l.left
