-- What the functions of the code give, as plain data. No public contract names this.
use Rattle.std.specs.Prelude.{◌≡◌, Bool, List, reverse, Option, Some, None, [], ◌∷◌}
use Rattle.macro_conditions.specs.declared.values.Value.{Value}
use Rattle.macro_conditions.specs.declared.machine.Frame.{Frame}
use Rattle.macro_conditions.specs.declared.machine.Phase.{Phase as Held}
use Rattle.macro_conditions.specs.declared.machine.Phase.TheVariants.{Wants, Has}
use Rattle.macro_conditions.specs.Machine.{Phase, wants, has, Operand}

-- the frames from the inside out, where the innermost one is the last item
abbrev pub frames : List Frame → List Frame
frames = reverse

abbrev pub phase_view : Held → List Frame → Phase
phase_view (Wants e) fs = wants fs e
phase_view (Has e v) fs = has fs e v

abbrev pub StepsAs : Option Held → List Frame → Option Phase → Type 0
StepsAs None fs m = m ≡ None
StepsAs (Some h) fs m = m ≡ Some (phase_view h fs)

abbrev pub ReducesAs : Option (Bool × Value) → List Frame → Option Operand → Type 0
ReducesAs None fs m = m ≡ None
ReducesAs (Some r) fs m = m ≡ Some (record { stack = fs; evaluated = r.0; value = r.1 })

abbrev pub top_of : List Frame → Option Frame
top_of [] = None
top_of (f ∷ fs) = Some f
