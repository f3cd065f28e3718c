use Rattle.std.proofs.Common.{sym, ◌∙◌}
use Rattle.c_lexer.proofs.DigitLemmas.{too_large, all_digits, small_from_fits, one_digit}
use Rattle.c_lexer.proofs.numbers.value_of.Goals as goal

pub returns-in_err-value : goal.returns-in_err-value
returns-in_err-value c =
    let step = rw c.digit_value.ensures.value at c.with_digit.ensures in
    c.from_residual.ensures
    ∙ sym (too_large c.args.base c.loop-b.value c.args.digits.now c.loop-b.b-index c.requires c.loop-b-test.true c.loop-b.invariant.same
    (sym (c.in_err-value.was {u = tt}) ∙ step))

pub loop-b-preserved : goal.loop-b-preserved
loop-b-preserved c =
    let step = rw c.digit_value.ensures.value at c.with_digit.ensures in
    let parts = small_from_fits _ _ (sym (c.in_ok-value.was {u = tt}) ∙ step) in
    let same = one_digit c.args.base c.loop-b.value c.args.digits.now c.loop-b.b-index c.loop-b-test.true c.loop-b.invariant.same in
    record { same = parts.0 ∙ same; fits = rw parts.0 parts.1 }

pub returns : goal.returns
returns c =
    all_digits c.args.base c.loop-b.value c.args.digits.now c.loop-b.b-index c.loop-b-test.false c.loop-b.invariant.same
    c.loop-b.invariant.fits
