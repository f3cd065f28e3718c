use Rattle.std.proofs.Common.{refl}
use Rattle.macro_items.proofs.Merging.{none_ascends}
use Rattle.macro_items.proofs.hide.HideSet.empty.Goals as goal

pub invariant_of-result : goal.invariant_of-result
invariant_of-result c = none_ascends _ refl
