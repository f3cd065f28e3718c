use Rattle.std.proofs.Common.{refl, arith}
use Rattle.std.proofs.lemmas.List.{append-nil}
use Rattle.macro_meaning.specs.Macros.{has}
use Rattle.macro_replacement.proofs.Arguments.{hidden_more}
use Rattle.macro_replacement.proofs.replacement.push_joined.Goals as goal

pub loop-item-init : goal.loop-item-init
loop-item-init c = record { joined = c.requires; pushed = rw append-nil refl }

pub loop-item-preserved : goal.loop-item-preserved
loop-item-preserved c = record {
  joined = rw c.in_ok-follow.ensures.own c.in_ok-follow.ensures.both;
  pushed = rw c.in_ok-push.ensures.items
      (hidden_more _ _ _ _ c.item-item.result c.in_ok-with_hide.field-0 (has c.args.hides.now.new) _
      (omega arith) c.item-item.is c.in_ok-with_hide.ensures c.in_ok-follow.ensures.both c.loop-item.invariant.pushed);
}
