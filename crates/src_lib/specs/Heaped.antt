-- How a call on the heap ends, as code says it.
use Rattle.std.specs.Prelude.{Result, Ok, Err}
use Rattle.fc_base.specs.declared.undefined.UndefKind.{UndefKind}
use Rattle.run_meaning.specs.Worlds.{World}
use Rattle.object_meaning.specs.Allocations.{Store, CallEnd, Gave, Undefined}
use Rattle.object_meaning.specs.declared.values.Value.TheVariants.{Nothing}

abbrev pub freed : Result (Unit {0}) UndefKind → Store → World → CallEnd
freed (Ok done) s w = Gave Nothing s w
freed (Err kind) s w = Undefined kind
