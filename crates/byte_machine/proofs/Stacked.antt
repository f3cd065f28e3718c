-- The registers of all calls in one list.
use Rattle.std.proofs.Common.{◌≡◌, ℕ, suc, ◌<◌, ◌≤◌, List, [], ◌∷◌, length, take, drop, refl, ap, arith}
use Rattle.std.proofs.lemmas.List.{length-drop}
use Rattle.byte_machine.specs.declared.windows.Mark.{Mark}
use Rattle.byte_machine.specs.Stack.{windows}

-- each mark is a call
pub length_windows : (marks : List Mark) (registers : List ℕ) → length (windows marks registers) ≡ length marks
length_windows [] registers = refl
length_windows (mark ∷ marks) registers = ap suc (length_windows marks (take mark.start registers))

-- a call that has a register has it in the list
pub start_within : (start : ℕ) (items list registers : List ℕ) → list ≡ items → drop start items ≡ registers → 0 < length registers
    → start ≤ length list
start_within start items list registers same is some =
    let cut = length-drop start items in
    let whole = ap length same in
    let rest = ap length is in
    omega (arith, cut, whole, rest, some)
