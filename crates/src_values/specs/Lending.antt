-- Objects that are lent.
use Rattle.std.specs.Prelude.{ℕ, List, set}
use Rattle.std.specs.Borrow.{Lends, MutBor, Fml}
use Rattle.object_meaning.specs.Objects.{Object}
use Rattle.src_values.specs.contracts.objects.Object as object
use Rattle.src_values.specs.contracts.pages.Page as page

-- a page ends with this one of its objects as it was left
abbrev pub LendsPlace : MutBor (List Object) → ℕ → MutBor Object → Fml
LendsPlace p place r = Lends page.the_row object.the_row p r (set p.now place)
