-- The line of a size, by its row.
use Rattle.std.proofs.Common.{◌≡◌, ℕ, ◌%◌, List, [], ◌∷◌, Result, Ok, Err, refl, subst}
use Rattle.fc_base.specs.declared.levels.Mode.{Mode}
use Rattle.run_meaning.specs.Events.{size_line}
use Rattle.run_meaning.specs.Objects.{StreamState}
use Rattle.library_meaning.specs.Rows.{Count, run}
use Rattle.library_meaning.specs.OnBytes.{on_bytes, quiet}
use Rattle.library_meaning.specs.OnStreams.{Writes}
use Rattle.library_meaning.specs.declared.stops.HostStop.{HostStop}
use Rattle.library_meaning.specs.declared.stops.HostStop.TheVariants as host
use Rattle.fd_chk.proofs.Written.{writes_all, writes_some}
use Rattle.print_chk.specs.Written.{Wrote}
use Rattle.byte_machine.specs.State.{mode_at, note, note_line}

note_wrote : (line column mode value : ℕ) (m : Mode) (r : Result (Unit {0}) HostStop) (x y : StreamState) → m ≡ mode_at (mode % 4)
    → Wrote (size_line (record { line = line; col = column }) m value) r x y → Wrote (note_line line column mode value) r x y
note_wrote line column mode value m r x y same w =
    subst (λ (k : Mode). Wrote (size_line (record { line = line; col = column }) k value) r x y) same w

pub note_writes : (line column mode value : ℕ) (m : Mode) (memory : List ℕ) (x y : StreamState) → m ≡ mode_at (mode % 4)
    → Wrote (size_line (record { line = line; col = column }) m value) (Ok tt) x y
    → Writes (line ∷ column ∷ mode ∷ value ∷ []) (run (on_bytes (line ∷ column ∷ mode ∷ value ∷ [])) note memory quiet) (Ok 0) x y
note_writes line column mode value m memory x y same w =
    writes_all (line ∷ column ∷ mode ∷ value ∷ []) memory _ 2 0 (note_line line column mode value) (Count 0) x y refl refl
    (note_wrote line column mode value m (Ok tt) x y same w).0

pub note_fails : (line column mode value : ℕ) (m : Mode) (memory : List ℕ) (stop : HostStop) (x y : StreamState) → m ≡ mode_at (mode % 4)
    → Wrote (size_line (record { line = line; col = column }) m value) (Err stop) x y
    → Writes (line ∷ column ∷ mode ∷ value ∷ []) (run (on_bytes (line ∷ column ∷ mode ∷ value ∷ [])) note memory quiet) (Err stop) x y
note_fails line column mode value m memory host.SinkFault x y same w =
    let wrote = note_wrote line column mode value m (Err host.SinkFault) x y same w in
    writes_some (line ∷ column ∷ mode ∷ value ∷ []) memory _ 2 (note_line line column mode value) (Count 0) x y refl wrote.0 wrote.1 wrote.2.0
note_fails line column mode value m memory host.Overflow x y same w = absurd w
note_fails line column mode value m memory host.BadAddress x y same w = absurd w
note_fails line column mode value m memory host.BadFormat x y same w = absurd w
note_fails line column mode value m memory host.InputFault x y same w = absurd w
