use Rattle.std.proofs.Common.{◌≡◌, ◌++◌, map, take}
use Rattle.macro_meaning.specs.Replacement.{hidden}
use Rattle.macro_meaning.specs.Turns.{union}
use Rattle.macro_meaning.specs.Macros.{has}
use Rattle.macro_items.specs.Views.{views}
use Rattle.macro_replacement.proofs.replacement.push_joined.Given as goal

abbrev pub invariant-loop-item : goal.invariant-loop-item
invariant-loop-item l = record {
  joined : has l.both ≡ union (has l.own) (has l.hides.new);
  pushed : views l.new.items ≡ views l.initial.new.items ++ map (hidden (has l.hides.new)) (views (take l.item-index l.tokens));
}
