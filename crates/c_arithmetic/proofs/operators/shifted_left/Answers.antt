use Rattle.std.proofs.Common.{◌≡◌, ◌*◌, ◌%◌, ◌^◌, ap, ◌∙◌}
use Rattle.std.proofs.Math.Nat.{mod-eq_of_lt}
use Rattle.fc_base.specs.Widths.{extended}
use Rattle.c_arithmetic.proofs.Bits.{shift_bits}
use Rattle.c_arithmetic.proofs.operators.shifted_left.Goals as goal

pub returns : goal.returns
returns c =
    let count : c.args.count % 64 ≡ c.args.count = mod-eq_of_lt c.requires in
    let bits = c.wrapping_shl.ensures ∙ ap (λ k. (c.args.a * 2 ^ k) % 2 ^ 64) count in
    c.cut.ensures ∙ ap (λ n. extended n c.args.of.width c.args.of.signed)
    (bits ∙ shift_bits c.args.of.signed c.args.a (2 ^ c.args.count) c.ranges.a.fits)
