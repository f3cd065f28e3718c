-- What was written on a sink in a part of a call.
use Rattle.std.specs.Prelude.{◌≡◌, ◌≢◌, ◌≤◌, List, ℕ, [], ◌++◌, drop, is_some, true, IsOk, Result, Ok, Err}
use Rattle.fc_base.specs.Outside.{Appends, AppendsFront, Rose}
use Rattle.run_meaning.specs.Objects.{StreamState}
use Rattle.library_meaning.specs.declared.stops.HostStop.{HostStop}
use Rattle.library_meaning.specs.declared.stops.HostStop.TheVariants as host
use Rattle.print_formats.specs.Formats.{directives_of}
use Rattle.print_texts.specs.Printing.{listed, measured, shown}

-- these bytes, or a front of them where the sink failed
abbrev pub Wrote : List ℕ → Result (Unit {0}) HostStop → StreamState → StreamState → Type 0
Wrote bytes (Ok done) old new = Appends bytes old.told new.told × (old.faults ≤ new.faults)
Wrote bytes (Err host.SinkFault) old new =
    (bytes ≢ []) × AppendsFront bytes old.told new.told × (Rose old.faults new.faults × (old.faults ≤ new.faults))
Wrote bytes (Err host.Overflow) old new = ⊥
Wrote bytes (Err host.BadAddress) old new = ⊥
Wrote bytes (Err host.BadFormat) old new = ⊥
Wrote bytes (Err host.InputFault) old new = ⊥

-- a format of whose text a front was written, up to a place and before an argument
pub record PutSoFar (args m format : List ℕ) (at next : ℕ) (old new : StreamState) : Type 0 where
  pub front : List ℕ
  pub total : ℕ
  pub well : is_some (directives_of (drop at format)) ≡ true
  pub valid : IsOk (measured args m (listed (directives_of (drop at format))) next total)
  pub whole : front ++ shown args m (listed (directives_of (drop at format))) next ≡ shown args m (listed (directives_of format)) 0
  pub wrote : Wrote front (Ok tt) old new
