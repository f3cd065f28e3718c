-- A machine that is run, whether it begins or has ended before its first instruction.
use Rattle.std.proofs.Common.{◌≡◌, ℕ, Option, None, Some, IfSome, refl, ap, subst, ◌∙◌, arith}
use Rattle.std.specs.Option.{option_map}
use Rattle.fc_base.specs.declared.levels.End.{End}
use Rattle.run_meaning.specs.Objects.{Streams, Failed}
use Rattle.run_meaning.specs.declared.streams.Stream.{Stream}
use Rattle.run_meaning.specs.declared.streams.Stream.TheVariants.{Input as OfInput, Out as OfOut, Err as OfErr}
use Rattle.byte_machine.specs.State.{Core, Program}
use Rattle.byte_machine.specs.Machines.{Loaded}
use Rattle.byte_machine.specs.declared.machine.Stop.{Stop}
use Rattle.byte_machine.specs.declared.machine.Stop.TheVariants as stops
use Rattle.byte_machine.proofs.Runs.{advances, carried_by-zero}
use Rattle.fort_words.specs.declared.Outcome.TheVariants as outcomes
use Rattle.fort_driver.specs.Fort.{ComesTo, FailsWithin, fault_outcome}
use Rattle.fort_driver.specs.Preparing.{IsAtStart, Runs}

pub by_start : {P : Type 0} (machine : Loaded) → IsAtStart machine → (machine.stop ≡ None → P)
    → ((end : End) → machine.core.stopped ≡ Some end → machine.stop ≡ Some (stops.Ended end) → P) → P
by_start {P} machine start begins ended = go machine.core.stopped refl where
  go : (o : Option End) → machine.core.stopped ≡ o → P
  go None is = begins (start ∙ ap (option_map stops.Ended) is)
  go (Some end) is = ended end is (start ∙ ap (option_map stops.Ended) is)

-- one whose answer is no end that it had before has begun
pub has_begun : (machine : Loaded) → IsAtStart machine → (Q : Stop → Type 0) → IfSome machine.stop Q
    → ((end : End) → Q (stops.Ended end) → ⊥) → machine.stop ≡ None
has_begun machine start Q again other =
    by_start machine start (λ none. none) (λ end is stop. absurd (other end (subst (λ o. IfSome o Q) stop again)))

-- one that has ended comes to its end at once
pub at_once : (end : End) (bound : ℕ) (program : Program) (core : Core) (x : Streams) → core.stopped ≡ Some end
    → ComesTo (outcomes.Ran end) bound program core x x
at_once end bound program core x is = (0, core, omega arith, is, advances 0 program core core x x (carried_by-zero program core x))

-- an end and the bound are no stream's fault, and each stream has a fault of its own
pub end_is_no_fault : (end : End) (which : Stream) → outcomes.Ran end ≡ fault_outcome which → ⊥
end_is_no_fault end OfInput is = absurd (cc)
end_is_no_fault end OfOut is = absurd (cc)
end_is_no_fault end OfErr is = absurd (cc)

pub bound_is_no_fault : (which : Stream) → outcomes.OutOfSteps ≡ fault_outcome which → ⊥
bound_is_no_fault OfInput is = absurd (cc)
bound_is_no_fault OfOut is = absurd (cc)
bound_is_no_fault OfErr is = absurd (cc)

same_stream : (a b : Stream) → fault_outcome a ≡ fault_outcome b → a ≡ b
same_stream OfInput OfInput is = refl
same_stream OfOut OfOut is = refl
same_stream OfErr OfErr is = refl
same_stream OfInput OfOut is = absurd (cc)
same_stream OfInput OfErr is = absurd (cc)
same_stream OfOut OfInput is = absurd (cc)
same_stream OfOut OfErr is = absurd (cc)
same_stream OfErr OfInput is = absurd (cc)
same_stream OfErr OfOut is = absurd (cc)

pub faulted : (which : Stream) (bound : ℕ) (machine : Loaded) (x y : Streams) → FailsWithin which bound machine.program machine.core x y
    → Failed which x y → Runs (fault_outcome which) bound machine x y
faulted OfInput bound machine x y ran failed =
    record { ran = ran; failed = λ which is. subst (λ w. Failed w x y) (same_stream OfInput which is) failed }
faulted OfOut bound machine x y ran failed =
    record { ran = ran; failed = λ which is. subst (λ w. Failed w x y) (same_stream OfOut which is) failed }
faulted OfErr bound machine x y ran failed =
    record { ran = ran; failed = λ which is. subst (λ w. Failed w x y) (same_stream OfErr which is) failed }

-- one end
pub same_end : {a b : End} → ◌≡◌ {A = Stop} (stops.Ended a) (stops.Ended b) → b ≡ a
same_end is = cc
