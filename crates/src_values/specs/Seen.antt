-- How an object is seen.
use Rattle.std.specs.Prelude.{length}
use Rattle.object_meaning.specs.Objects.{Object}
use Rattle.src_values.specs.declared.objects.Object.TheInside.{Inside}

abbrev pub object_in : Inside → Object
object_in o = record { size = length o.cells; alive = o.alive; writable = o.writable; cells = o.cells }
