use Rattle.std.proofs.Common.{◌≡◌, map, take}
use Rattle.macro_conditions.specs.Conditions.{now}
use Rattle.macro_items.specs.Views.{views}
use Rattle.macro_lines.proofs.conditions.kinds.Given as goal

abbrev pub invariant-loop-item : goal.invariant-loop-item
invariant-loop-item l = now l.kinds.items ≡ map (λ x. x.kind) (views (take l.item-index l.items))
