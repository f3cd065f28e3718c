-- How long a text is, as the code hands it on.
use Rattle.std.specs.Prelude.{ℕ, Result, Ok, Err}
use Rattle.library_meaning.specs.declared.stops.HostStop.{HostStop}
use Rattle.print_texts.specs.declared.lengths.Measured.{Measured}

abbrev pub length_of : Result Measured HostStop → Result ℕ HostStop
length_of (Ok t) = Ok t.length
length_of (Err stop) = Err stop
