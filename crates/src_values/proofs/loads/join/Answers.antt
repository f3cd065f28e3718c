use Rattle.std.proofs.Common.{◌<◌, ◌≤◌, arith}
use Rattle.std.proofs.lemmas.Result.{IfOk-at_ok}
use Rattle.src_values.specs.Numbers.{values_of}
use Rattle.src_values.proofs.Values.{values_more}
use Rattle.src_values.proofs.loads.join.Goals as goal

pub overflow_mul-result : goal.overflow_mul-result
overflow_mul-result c =
    let r : values_of c.args.count ≤ values_of 7 = values_more c.args.count 7 c.requires.few in
    let s = IfOk-at_ok (λ v. v < values_of c.args.count) c.in-Ok.is c.requires.small in
    omega (arith, r, s)

pub overflow_add-result : goal.overflow_add-result
overflow_add-result c =
    let r : values_of c.args.count ≤ values_of 7 = values_more c.args.count 7 c.requires.few in
    let s = IfOk-at_ok (λ v. v < values_of c.args.count) c.in-Ok.is c.requires.small in
    omega (arith, r, s, c.from.ensures)
