use Rattle.std.proofs.Common.{◌≡◌, ℕ, ◌+◌, ◌≤◌, List, ◌++◌, length, take, drop, arith}
use Rattle.std.proofs.lemmas.Grind.{common_steps}
use Rattle.std.proofs.lemmas.List.{take-append-drop, take-append-le}
use Rattle.fc_base.proofs.memory_streams.MemSourceSource.read.Goals as goal

-- what was copied to the buffer's front and what is left then are what was left before
taken_then_left : (copied rest left items : List ℕ) (n taken : ℕ) → copied ≡ take n left → left ≡ drop taken items → n ≤ length left → left ≡ take n (copied ++ rest) ++ drop (taken + n) items
taken_then_left copied rest left items n taken e f within = grind (arith, common_steps, take-append-drop n left, take-append-le n copied rest)

pub returns-clause-taken : goal.returns-clause-taken
returns-clause-taken c =
    taken_then_left c.copy_from_slice.new.self _ c.args.self.now.left c.self.inside.bytes.items c.min-n.result c.self.inside.taken (grind (arith, common_steps)) (grind (arith, common_steps)) (grind (arith, common_steps))
