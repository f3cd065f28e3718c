-- The data are refused where the bytes end within them, and the end where more bytes stand behind them.
use Rattle.std.proofs.Common.{◌≡◌, ℕ, ◌+◌, ◌∙◌, ap, arith}
use Rattle.std.proofs.lemmas.Result.{err_from_is_err_and}
use Rattle.bm_image.specs.declared.faults.ImageKind.TheVariants as kinds
use Rattle.bm_image.specs.declared.faults.ImageFault.{ImageFault}
use Rattle.bm_image.specs.Parts.{image_end}
use Rattle.bm_image.proofs.Judged.{the_fault, handed_on, data_short, data_extra, data_accepted}
use Rattle.bm_image.proofs.reading.read_data.Goals as goal

pub returns-in_err-whole-clause-refused : goal.returns-in_err-whole-clause-refused
returns-in_err-whole-clause-refused c = λ fault is.
    let p = err_from_is_err_and c.from_residual.result c.from_residual.ensures.1 in
    data_short c.args.bytes.now c.in_err-whole.field-0.0 fault (rw (c.requires.at, c.requires.size) at c.in_err-whole.ensures.short)
    (handed_on c.from_residual.result p.0 c.in_err-whole.field-0.0 fault p.1 p.2 is)

pub returns-then-bytes-end-clause-refused : goal.returns-then-bytes-end-clause-refused
returns-then-bytes-end-clause-refused c = λ fault is.
    let bytes = c.args.bytes.now in
    let end : image_end bytes ≡ c.args.at + c.args.size = omega (arith, c.requires.at, c.requires.size) in
    let fault_at : ℕ → ImageFault = λ n. record { kind = kinds.Extra; offset = n } in
    data_extra bytes fault (omega (arith, end, c.if-bytes-end.true)) (ap fault_at end ∙ ap the_fault is)

pub returns-clause-accepted : goal.returns-clause-accepted
returns-clause-accepted c =
    let bytes = c.args.bytes.now in
    let end : image_end bytes ≡ c.args.at + c.args.size = omega (arith, c.requires.at, c.requires.size) in
    data_accepted bytes (omega (arith, end, c.if-bytes-end.false, c.in_ok-whole.ensures.whole))
