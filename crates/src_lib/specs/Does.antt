-- What a call promises by its row, over objects.
use Rattle.std.specs.Prelude.{◌≡◌, ℕ, List, Result, Ok, Err}
use Rattle.fc_base.specs.declared.undefined.UndefKind.{UndefKind}
use Rattle.run_meaning.specs.Worlds.{World}
use Rattle.library_meaning.specs.Rows.{Answer, Given}
use Rattle.object_meaning.specs.Objects.{Object}
use Rattle.object_meaning.specs.OnObjects.{ObjectStop, value_of}
use Rattle.object_meaning.specs.declared.values.Value.{Value}
use Rattle.src_lib.specs.Ends.{stop_of}
use Rattle.src_lib.specs.declared.ends.Stop.{Stop}
use Rattle.src_lib.specs.declared.ends.Stop.TheVariants as stops

-- a call has done what its row says, and the world is as it was; where it stops, memory is as it was too
abbrev pub Does : List Value → World → Result (Answer (List Object)) ObjectStop → List Object → List Object → Result Value Stop → Type 0
Does args w (Ok a) old new (Ok v) = (v ≡ value_of args a.given) × (new ≡ a.memory) × (a.world ≡ w)
Does args w (Ok a) old new (Err stop) = ⊥
Does args w (Err e) old new (Ok v) = ⊥
Does args w (Err e) old new (Err stop) = (stop_of stop ≡ e) × (new ≡ old)

-- a call that changes no memory
abbrev pub Reads : List Value → World → Result (Answer (List Object)) ObjectStop → List Object → Result Value Stop → Type 0
Reads args w ran objs result = Does args w ran objs objs result

-- a call gives this value where its last act was done
abbrev pub gives : Result (Unit {0}) UndefKind → Value → Result Value Stop
gives (Ok done) v = Ok v
gives (Err kind) v = Err (stops.Undefined kind)

-- the same of a call that gives a number, and of a row that gives what it makes of that
abbrev pub GivesWith : (ℕ → Given) → World → Result (Answer (List Object)) ObjectStop → List Object → List Object → Result ℕ Stop → Type 0
GivesWith given w (Ok a) old new (Ok k) = (a.given ≡ given k) × (new ≡ a.memory) × (a.world ≡ w)
GivesWith given w (Ok a) old new (Err stop) = ⊥
GivesWith given w (Err e) old new (Ok k) = ⊥
GivesWith given w (Err e) old new (Err stop) = (stop_of stop ≡ e) × (new ≡ old)
