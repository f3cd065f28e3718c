use Rattle.std.proofs.Common.{◌≡◌, take}
use Rattle.macro_meaning.specs.Macros.{items}
use Rattle.macro_items.specs.Views.{views}
use Rattle.c_macros.proofs.expansion.items.Given as goal

abbrev pub invariant-loop-token : goal.invariant-loop-token
invariant-loop-token l = views l.list.items ≡ items (take l.token-index l.text)
