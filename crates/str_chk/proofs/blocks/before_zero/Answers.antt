use Rattle.std.proofs.Common.{eqb, sym, ap, ◌∙◌, arith, w8}
use lib.Count.{count_trailing_zeros}
use Rattle.std.proofs.lemmas.Simd.{bitmask_splat, leading_from_mask_l, trailing_mask_l}
use Rattle.str_chk.proofs.blocks.before_zero.Goals as goal

pub returns-then-zeros-eq0 : goal.returns-then-zeros-eq0
returns-then-zeros-eq0 c =
    let v = c.args.bytes in
    let zeros = bitmask_splat w8 eqb v 32 0 c.requires (omega arith) in
    sym (leading_from_mask_l (λ x. eqb x 0) v (sym zeros ∙ c.if-zeros-eq0.true) ∙ c.requires)

pub returns-else-zeros-eq0 : goal.returns-else-zeros-eq0
returns-else-zeros-eq0 c =
    let v = c.args.bytes in
    let zeros = bitmask_splat w8 eqb v 32 0 c.requires (omega arith) in
    ap (count_trailing_zeros 64) zeros ∙ trailing_mask_l (λ x. eqb x 0) 64 v (omega arith) (omega arith)
