-- The row of `read` at the machine's slots and memory.
use Rattle.std.proofs.Common.{◌≡◌, ℕ, List, ◌∷◌, [], length, sym, subst, arith}
use Rattle.run_meaning.specs.Objects.{stream}
use Rattle.library_meaning.specs.Rows.{run}
use Rattle.library_meaning.specs.Table as table
use Rattle.library_meaning.specs.OnBytes.{on_bytes}
use Rattle.library_meaning.specs.OnStreams.{TakesAs}
use Rattle.byte_machine.specs.State.{slot_value}
use Rattle.byte_machine.specs.Machines.{Loaded}
use Rattle.byte_machine.specs.View.{loaded_of}
use Rattle.byte_machine.proofs.Taken.{put_back}
use Rattle.byte_machine.proofs.machine.Machine.take_bytes.Goals as goal

pub returns-clause-took : goal.returns-clause-took
returns-clause-took g c =
    let x = stream (g.I.Source.left c.args.input.now) (g.I.Source.count c.args.input.now) in
    let y = stream (g.I.Source.left c.read_c.new.input) (g.I.Source.count c.read_c.new.input) in
    let new = c.read_c.new.mem in
    let args : Loaded → List ℕ = λ l. 0 ∷ slot_value l.core 1 ∷ slot_value l.core 2 ∷ [] in
    let long : length new ≡ c.self.inside.memory.len = omega (arith, c.read_c.auto.mem, c.deref_mut.ensures.len) in
    subst (λ m. TakesAs (args c.args.self.now) (λ k. run (on_bytes (args c.args.self.now)) (table.read c.args.size) k)
    (c.args.self.now.core.memory, m) c.read_c.result x y) (sym (put_back c.self.inside.memory.len new c.self.inside.memory.items long))
    (subst (λ (l : Loaded). TakesAs (args l) (λ k. run (on_bytes (args l)) (table.read c.args.size) k) (l.core.memory, new) c.read_c.result x y) c.self.view_is
    (subst (λ m. TakesAs (args (loaded_of c.self.inside)) (λ k. run (on_bytes (args (loaded_of c.self.inside))) (table.read c.args.size) k) (m, new)
    c.read_c.result x y) c.deref_mut.ensures.value c.read_c.ensures.row))
