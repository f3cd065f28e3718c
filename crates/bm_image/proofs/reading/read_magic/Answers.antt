-- The magic bytes are refused where the bytes end within them, or are others.
use Rattle.std.proofs.Common.{◌≡◌, take}
use Rattle.std.specs.Prelude.{codes}
use Rattle.std.proofs.lemmas.Result.{err_from_is_err_and}
use Rattle.bm_image.specs.Parts.{Magic, wrong}
use Rattle.bm_image.proofs.Judged.{short_is}
use Rattle.bm_image.proofs.reading.read_magic.Goals as goal

pub returns-in_err-whole-clause-refused : goal.returns-in_err-whole-clause-refused
returns-in_err-whole-clause-refused c =
    let p = err_from_is_err_and c.from_residual.result c.from_residual.ensures.1 in
    rw (p.1, p.2) (short_is c.args.bytes.now Magic c.in_err-whole.field-0.0 c.in_err-whole.ensures.short)

pub returns-then-ne-clause-refused : goal.returns-then-ne-clause-refused
returns-then-ne-clause-refused c = wrong c.in_ok-whole.ensures.whole (λ same.
    let s : take 8 c.args.bytes.now ≡ codes "FC3IMAGE" = same in
    absurd (cc (rw (s, c.as_slice.ensures) at c.if-ne.ensures)))
