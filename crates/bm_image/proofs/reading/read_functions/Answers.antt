-- The first record that is refused is the first part that is.
use Rattle.std.proofs.Common.{◌<◌, ◌≤◌, subst, arith}
use Rattle.std.proofs.lemmas.Result.{err_from_is_err_and}
use Rattle.bm_image.specs.Parts.{Record, Refuses, functions_count}
use Rattle.bm_image.proofs.Judged.{handed_on, record_refused, record_accepted, records_done, records_step, before_step}
use Rattle.bm_image.proofs.reading.read_functions.Goals as goal

pub returns-in_err-f-clause-refused : goal.returns-in_err-f-clause-refused
returns-in_err-f-clause-refused c = λ fault is.
    let bytes = c.args.bytes.now in
    let p = err_from_is_err_and c.from_residual.result c.from_residual.ensures.1 in
    let same = handed_on c.from_residual.result p.0 c.in_err-f.field-0.0 fault p.1 p.2 is in
    let below : c.loop-k.k < functions_count bytes = omega (arith, c.requires.functions, c.loop-k-test.true) in
    record_refused bytes c.loop-k.k (functions_count bytes) fault below c.loop-k.invariant.carries
    (subst (Refuses bytes (Record c.loop-k.k)) same c.in_err-f.ensures.refused)

pub loop-k-preserved : goal.loop-k-preserved
loop-k-preserved c =
    let bytes = c.args.bytes.now in
    let below : c.loop-k.k < functions_count bytes = omega (arith, c.requires.functions, c.loop-k-test.true) in
    record {
      items = records_step bytes c.loop-k.k c.in_ok-f.f c.loop-k.functions.items c.push.new.self.items c.loop-k.invariant.items c.in_ok-f.ensures.record c.in_ok-push.ensures.items;
      before = before_step bytes c.loop-k.k c.in_ok-f.f c.in_ok-f.ensures.record;
      carries = record_accepted bytes c.loop-k.k (functions_count bytes) below c.loop-k.invariant.carries c.in_ok-f.ensures.accepted;
    }

pub returns-clause-accepted : goal.returns-clause-accepted
returns-clause-accepted c =
    let bytes = c.args.bytes.now in
    let over : functions_count bytes ≤ c.loop-k.k = omega (arith, c.requires.functions, c.loop-k-test.false) in
    records_done bytes c.loop-k.k (functions_count bytes) over c.loop-k.invariant.carries
