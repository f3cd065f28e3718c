use Rattle.std.proofs.Common.{arith, ap, ◌∙◌}
use Rattle.std.specs.Prelude.{slice_get}
use Rattle.elab_expressions.proofs.Converting.{fewer, converted_behind}
use Rattle.elab_expressions.proofs.calls.+all_converted.Goals as goal

pub all_converted-requires : goal.all_converted-requires
all_converted-requires t c =
    let less = fewer c.args.args c.pop.new.self c.in-Some.last c.in-Some.ensures in
    (omega (arith, less, c.decreases), tt)

pub returns-in_ok-push-in-Ok : goal.returns-in_ok-push-in-Ok
returns-in_ok-push-in-Ok t c =
    let front = rw c.in_ok-last-in-Ok.ensures.ok.1 at c.all_converted.ensures in
    let last = c.in_ok-last-in-Ok.ensures.ok.0 ∙ c.in-Ok.ensures in
    let param = c.at.ensures ∙ ap (slice_get c.args.params.now) c.len.ensures in
    converted_behind c.args.params.now c.args.args c.pop.new.self c.in-Some.last _ _ _ _ c.in-Some.ensures front param last c.in_ok-push-in-Ok.ensures.ok
