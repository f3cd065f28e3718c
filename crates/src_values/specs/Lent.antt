-- Numbered objects that are lent.
use Rattle.std.specs.Prelude.{ℕ, List, set}
use Rattle.std.specs.Borrow.{Lends, MutBor, Fml}
use Rattle.object_meaning.specs.Objects.{Object}
use Rattle.src_values.specs.contracts.objects.Object as object
use Rattle.src_values.specs.contracts.table.Objects as table

-- the objects end with this one as it was left
abbrev pub LendsNumber : MutBor (List Object) → ℕ → MutBor Object → Fml
LendsNumber objs number r = Lends table.the_row object.the_row objs r (set objs.now number)
