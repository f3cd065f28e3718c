-- What is opened is runnable.
use Rattle.std.proofs.Common.{◌∙◌, refl, sym, subst, length, ◌≤◌, ◌<◌, ℕ, List}
use Rattle.std.proofs.lemmas.List.{get_or_default}
use Rattle.bm_image.specs.declared.images.FnRec.{FnRec}
use Rattle.bm_image.specs.Images.{plain_image, no_function, function_at}
use Rattle.byte_machine.proofs.Opened.{first_runnable}
use Rattle.byte_machine.proofs.machine.Machine.open.Goals as goal

pub invariant_of-result : goal.invariant_of-result
invariant_of-result c =
    let image = plain_image c.args.image.now in
    first_runnable _ image c.args.args.now c.index.result.now c.requires.image
    (c.in_ok-functions.ensures.items ∙ c.deref.ensures.value) (c.in_ok-code.ensures.items ∙ c.deref-2.ensures.value)
    (c.index.ensures ∙ get_or_default c.args.image.now.functions.items c.args.image.now.entry c.index.result.now no_function c.requires.image.entry)
    c.in_ok-windows.ensures refl c.in_ok-memory.ensures.size c.least_weight-least.ensures.some
    (subst (λ (l : List FnRec). (k : ℕ) → k < length l → c.least_weight-least.result ≤ (function_at l k).weight) c.deref-3.ensures.value c.least_weight-least.ensures.least)
