use Rattle.std.proofs.Common.{◌<◌, ◌^◌, length, arith}
use Rattle.std.proofs.lemmas.Result.{err_from_is_err_and}
use Rattle.c_lexer.proofs.Cutting.{bad_byte, size_bounds, piece_refused, piece_added, all_read}
use Rattle.c_lexer.proofs.reader.scan.Goals as goal

pub returns-in_default : goal.returns-in_default
returns-in_default c =
    rw c.refused.ensures
    (bad_byte c.args.bytes.now c.rest_from.result.now c.args.places.now c.args.places.now c.loop-at.at c.loop-at.state
    c.is_after_include.result c.in_ok-front.front _ c.loop-at-test.true c.requires.same c.rest_from.ensures c.is_after_include.ensures
    (c.in_ok-front.ensures {u = tt}) c.in_default.is c.loop-at.tokens.items _ c.loop-at.invariant.few c.loop-at.invariant.owed)

pub returns-in_err-state : goal.returns-in_err-state
returns-in_err-state c =
    let p = err_from_is_err_and c.from_residual-in_err-state.result c.from_residual-in_err-state.ensures.1 in
    rw (p.1, p.2)
    (piece_refused c.args.bytes.now c.rest_from.result.now c.args.places.now c.places_from.result.now c.loop-at.at c.loop-at.state
    c.is_after_include.result c.in_ok-front.front _ c.loop-at-test.true c.requires.same c.rest_from.ensures
    c.is_after_include.ensures (c.in_ok-front.ensures {u = tt}) c.in-Some.size c.in-Some.piece c.in_err-state.field-0.0
    c.loop-at.tokens.items _ c.in-Some.is c.places_from.ensures (c.in_err-state.ensures {u = tt}) c.loop-at.invariant.owed)

pub overflow_add-at : goal.overflow_add-at
overflow_add-at c =
    let b = size_bounds c.args.bytes.now c.rest_from.result.now c.args.places.now c.places_from.result.now c.loop-at.at c.loop-at.state
    c.is_after_include.result c.in_ok-front.front (record { line = 0; col = 0 }) c.loop-at-test.true c.requires.same c.rest_from.ensures
    c.is_after_include.ensures (c.in_ok-front.ensures {u = tt}) c.in-Some.size c.in-Some.piece c.in-Some.is in
    let bound : length c.args.bytes.now < 2 ^ 63 = c.requires.bound in
    omega (arith, b.1)

pub loop-at-smaller : goal.loop-at-smaller
loop-at-smaller c =
    let b = size_bounds c.args.bytes.now c.rest_from.result.now c.args.places.now c.places_from.result.now c.loop-at.at c.loop-at.state
    c.is_after_include.result c.in_ok-front.front (record { line = 0; col = 0 }) c.loop-at-test.true c.requires.same c.rest_from.ensures
    c.is_after_include.ensures (c.in_ok-front.ensures {u = tt}) c.in-Some.size c.in-Some.piece c.in-Some.is in
    let test : c.loop-at.at < length c.args.bytes.now = c.loop-at-test.true in
    omega (arith, b.0, b.1)

pub loop-at-preserved : goal.loop-at-preserved
loop-at-preserved c =
    let b = size_bounds c.args.bytes.now c.rest_from.result.now c.args.places.now c.places_from.result.now c.loop-at.at c.loop-at.state
    c.is_after_include.result c.in_ok-front.front (record { line = 0; col = 0 }) c.loop-at-test.true c.requires.same c.rest_from.ensures
    c.is_after_include.ensures (c.in_ok-front.ensures {u = tt}) c.in-Some.size c.in-Some.piece c.in-Some.is in
    let adds = c.in_ok-state.ensures {u = tt} in
    record {
      owed =
          piece_added c.args.bytes.now c.rest_from.result.now c.args.places.now c.places_from.result.now c.loop-at.at c.loop-at.state
          c.is_after_include.result c.in_ok-front.front _ c.loop-at-test.true c.requires.same c.rest_from.ensures
          c.is_after_include.ensures (c.in_ok-front.ensures {u = tt}) c.in-Some.size c.in-Some.piece c.in_ok-state.state
          c.loop-at.tokens.items c.add.new.tokens.items _ c.in-Some.is c.places_from.ensures adds.0 c.loop-at.invariant.owed;
      within = b.1;
      few = adds.1;
    }

pub returns : goal.returns
returns c =
    all_read c.args.bytes.now c.args.places.now c.loop-at.at c.loop-at.state c.loop-at.tokens.items _ c.loop-at-test.false
    c.loop-at.invariant.few c.loop-at.invariant.owed
