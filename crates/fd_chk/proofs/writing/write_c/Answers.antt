use Rattle.std.proofs.Common.{◌≡◌, ◌+◌, ◌∷◌, [], true, sym, ap, ◌∙◌, refl, Ok}
use Rattle.std.specs.Prelude.{slice_range}
use Rattle.library_meaning.specs.Rows.{answer, Count, showing}
use Rattle.library_meaning.specs.OnBytes.{quiet}
use Rattle.library_meaning.specs.Memory.{are_valid}
use Rattle.fd_chk.proofs.Written.{writes_all, writes_some, write_is, part_is, not_both}
use Rattle.fd_chk.proofs.writing.write_c.Goals as goal

pub returns-in-Ok-clause-row : goal.returns-in-Ok-clause-row
returns-in-Ok-clause-row g c descriptor =
    let m = c.args.mem.now in
    let piece = slice_range m c.args.s (c.args.s + c.args.n) in
    let valid : are_valid c.args.s c.args.n ≡ true = sym c.is_valid.ensures ∙ c.if-not-is_valid.false in
    writes_all (descriptor ∷ c.args.s ∷ c.args.n ∷ []) m _ descriptor c.args.n piece (Count c.args.n) _ _
    (write_is m descriptor c.args.s c.args.n ∙ rw valid (ap (λ b. Ok (answer m (showing quiet descriptor b) (Count c.args.n))) (sym (part_is m c.args.s c.args.n)))) refl
    (rw c.in-Ok.is at c.write.ensures.appended)

pub returns-in-Err-clause-row : goal.returns-in-Err-clause-row
returns-in-Err-clause-row g c descriptor =
    let m = c.args.mem.now in
    let piece = slice_range m c.args.s (c.args.s + c.args.n) in
    let valid : are_valid c.args.s c.args.n ≡ true = sym c.is_valid.ensures ∙ c.if-not-is_valid.false in
    writes_some (descriptor ∷ c.args.s ∷ c.args.n ∷ []) m _ descriptor piece (Count c.args.n) _ _
    (write_is m descriptor c.args.s c.args.n ∙ rw valid (ap (λ b. Ok (answer m (showing quiet descriptor b) (Count c.args.n))) (sym (part_is m c.args.s c.args.n))))
    (λ e. not_both c.write.result c.in-Err.is (c.write.ensures.empty e).0)
    (rw c.in-Err.is at c.write.ensures.front_appended)
    (rw c.in-Err.is at c.write.ensures.failed)
