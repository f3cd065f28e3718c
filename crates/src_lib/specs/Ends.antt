-- Why a call does not go on, as the code says it.
use Rattle.object_meaning.specs.OnObjects as on
use Rattle.object_meaning.specs.OnObjects.{ObjectStop}
use Rattle.src_lib.specs.declared.ends.Stop.{Stop}
use Rattle.src_lib.specs.declared.ends.Stop.TheVariants as stops

abbrev pub stop_of : Stop → ObjectStop
stop_of stops.Overflow = on.Overflow
stop_of stops.BadFormat = on.BadFormat
stop_of (stops.Undefined kind) = on.Undefined kind
