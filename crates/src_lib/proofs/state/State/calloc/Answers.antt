use Rattle.std.proofs.Common.{◌≡◌, ◌*◌, ◌<◌, ◌^◌, true, sym, ap, subst, ◌∙◌, ⊎_elim}
use Rattle.std.specs.Prelude.{IfOk}
use Rattle.std.proofs.lemmas.Bool.{cases_lt}
use Rattle.bm_heap.specs.Heaps.{Ordered, heap_size}
use Rattle.run_meaning.specs.Worlds.{World}
use Rattle.object_meaning.specs.Allocations as calls
use Rattle.object_meaning.specs.Allocations.{Store, Gave}
use Rattle.object_meaning.specs.declared.values.Value.TheVariants.{Pointer}
use Rattle.src_lib.proofs.Rooming.{past_numbers}
use Rattle.src_lib.proofs.state.State.calloc.Goals as goal

pub returns-in-Some : goal.returns-in-Some
returns-in-Some c =
    subst (λ n. IfOk c.allocate.result (λ v. (w : World) → calls.calloc n c.args.self.now w ≡ Gave (Pointer v) c.allocate.new.self w))
    c.in-Some.ensures.1 c.allocate.ensures

pub returns-in-None : goal.returns-in-None
returns-in-None c w =
    let ordered = subst (λ (s : Store). Ordered 0 heap_size s.heap.holes) c.self.view_is c.size_at-whole.ensures.whole.ordered in
    past_numbers c.args.self.now (c.args.members * c.args.size) true w ordered
    (⊎_elim (λ (l : c.args.members * c.args.size < 2 ^ 64). absurd (c.in-None.ensures l)) (λ h. h) (cases_lt (c.args.members * c.args.size) (2 ^ 64)))
    ∙ ap (λ v. Gave (Pointer v) c.args.self.now w) (sym c.null.ensures)
