use Rattle.macro_items.proofs.Merging.{grown}
use Rattle.macro_items.proofs.hide.Hides.of.Goals as goal

pub invariant_of-result : goal.invariant_of-result
invariant_of-result c = record { grown = grown c.args.kind.now c.args.old c.in_ok-new.new c.in_ok-new.ensures }
