-- The section and the data, over zeros.
use Rattle.std.proofs.Common.{◌≡◌, ℕ, length, ap, ◌∙◌, arith}
use Rattle.std.proofs.lemmas.List.{length-replicate}
use Rattle.bm_image.specs.Images.{plain_image}
use Rattle.library_meaning.specs.Memory.{put}
use Rattle.byte_machine.proofs.Arguments.{short_section}
use Rattle.byte_machine.proofs.FirstMemory.{written, stored-first_memory}
use Rattle.byte_machine.proofs.opening.open_memory.Goals as goal

pub store-requires-clause-size : goal.store-requires-clause-size
store-requires-clause-size c =
    let long = ap length (c.deref_mut.ensures.value ∙ c.in_ok-memory.ensures) ∙ length-replicate {A = ℕ} c.size.result 0 in
    long ∙ c.size.ensures

pub store-requires-clause-inside : goal.store-requires-clause-inside
store-requires-clause-inside c =
    let short = short_section c.args.args.now c.requires.arguments in
    let same = ap length (c.deref.ensures.value ∙ c.in_ok-section.ensures) in
    omega arith

pub store-requires-2-clause-size : goal.store-requires-2-clause-size
store-requires-2-clause-size c =
    let long = ap length c.in_ok-memory.ensures ∙ length-replicate {A = ℕ} c.size.result 0 in
    let held = c.in_ok-memory.memory.ok.0 in
    c.deref_mut-2.ensures.len ∙ held ∙ long ∙ c.size.ensures

pub store-requires-2-clause-inside : goal.store-requires-2-clause-inside
store-requires-2-clause-inside c =
    let short = c.requires.image.bytes in
    let same = ap length c.deref-2.ensures.value in
    omega arith

pub returns-clause-size : goal.returns-clause-size
returns-clause-size c =
    let long = ap length c.in_ok-memory.ensures ∙ length-replicate {A = ℕ} c.size.result 0 in
    c.in_ok-memory.memory.ok.0 ∙ long ∙ c.size.ensures

pub returns-clause-items : goal.returns-clause-items
returns-clause-items c =
    let held = c.in_ok-memory.memory.ok.0 in
    let long = ap length c.in_ok-memory.ensures ∙ length-replicate {A = ℕ} c.size.result 0 in
    let seen = ap length c.deref_mut.ensures.value in
    let first_long : length c.store.new.memory ≡ c.in_ok-memory.memory.len = omega (arith, c.store.auto.memory) in
    let second_long : length c.store-2.new.memory ≡ c.in_ok-memory.memory.len =
    omega (arith, c.store-2.auto.memory, c.deref_mut-2.ensures.len) in
    written _ _ _ second_long
    ∙ stored-first_memory (plain_image c.args.image.now) c.args.args.now c.size.result c.deref.result.now c.deref_mut.result.now
    c.store.new.memory c.deref-2.result.now c.store-2.new.memory
    c.size.ensures (c.deref.ensures.value ∙ c.in_ok-section.ensures) (c.deref_mut.ensures.value ∙ c.in_ok-memory.ensures) c.store.ensures
    c.deref-2.ensures.value
    (c.store-2.ensures ∙ ap (λ m. put 1048576 c.deref-2.result.now m) (c.deref_mut-2.ensures.value ∙ written _ _ _ first_long))
