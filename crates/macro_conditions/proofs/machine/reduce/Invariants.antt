use Rattle.std.proofs.Common.{◌≡◌, vec_len}
use Rattle.macro_conditions.specs.Numbers.{number_of}
use Rattle.macro_conditions.specs.Machine.{reduced}
use Rattle.macro_conditions.specs.Reading.{frames}
use Rattle.macro_conditions.proofs.machine.reduce.Given as goal

abbrev pub invariant-loop-frame : goal.invariant-loop-frame
invariant-loop-frame l =
    reduced (number_of l.level) (frames l.stack.items) l.evaluated l.value
    ≡ reduced (number_of l.level) (frames l.initial.stack.items) l.initial.evaluated l.initial.value

abbrev pub decreases-loop-frame : goal.decreases-loop-frame
decreases-loop-frame l = vec_len l.stack
