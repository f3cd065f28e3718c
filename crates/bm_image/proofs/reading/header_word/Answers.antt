-- A word is refused where the bytes end within it, or where it is out of its bounds.
use Rattle.std.proofs.lemmas.Result.{err_from_is_err_and}
use Rattle.bm_image.specs.Parts.{Word, wrong}
use Rattle.bm_image.proofs.Judged.{short_is, untrue}
use Rattle.bm_image.proofs.reading.header_word.Goals as goal

pub returns-in_err-whole-clause-refused : goal.returns-in_err-whole-clause-refused
returns-in_err-whole-clause-refused c =
    let p = err_from_is_err_and c.from_residual.result c.from_residual.ensures.1 in
    rw (p.1, p.2) (short_is c.args.bytes.now (Word c.args.at c.args.least c.args.most c.args.kind) c.in_err-whole.field-0.0 c.in_err-whole.ensures.short)

pub returns-then-not-is_between-clause-refused : goal.returns-then-not-is_between-clause-refused
returns-then-not-is_between-clause-refused c =
    wrong c.in_ok-whole.ensures.whole (untrue _ _ c.if-not-is_between.true (rw c.word_at-word.ensures at c.is_between.ensures))
