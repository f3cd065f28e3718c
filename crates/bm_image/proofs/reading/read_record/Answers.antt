-- A record is refused where the bytes end within it, or where it doesn't stand rightly.
use Rattle.std.proofs.Common.{◌∙◌, refl, sym}
use Rattle.std.proofs.lemmas.Result.{err_from_is_err_and}
use Rattle.bm_image.specs.Parts.{Record, wrong}
use Rattle.bm_image.proofs.Judged.{short_is, untrue}
use Rattle.bm_image.proofs.reading.read_record.Goals as goal

pub returns-in_err-whole-clause-refused : goal.returns-in_err-whole-clause-refused
returns-in_err-whole-clause-refused c =
    let p = err_from_is_err_and c.from_residual.result c.from_residual.ensures.1 in
    rw (p.1, p.2) (short_is c.args.bytes.now (Record c.args.k) c.in_err-whole.field-0.0 c.in_err-whole.ensures.short)

pub returns-then-not-record_fits-clause-refused : goal.returns-then-not-record_fits-clause-refused
returns-then-not-record_fits-clause-refused c = wrong c.in_ok-whole.ensures.whole (untrue _ _ c.if-not-record_fits.true
    (c.record_fits.ensures ∙ rw (c.requires.before, c.requires.code, c.requires.entry, c.record_at-f.ensures) refl))

pub returns-clause-accepted : goal.returns-clause-accepted
returns-clause-accepted c = record {
  whole = c.in_ok-whole.ensures.whole;
  right = sym (rw (c.requires.before, c.requires.code, c.requires.entry, c.record_at-f.ensures) at c.record_fits.ensures)
      ∙ c.if-not-record_fits.false;
}
