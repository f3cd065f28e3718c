use Rattle.std.proofs.Common.{◌≡◌, true, refl, sym, ◌∙◌, arith}
use Rattle.std.proofs.lemmas.Bool.{le-ltb, lt-ltb}
use Rattle.library_meaning.specs.Memory.{are_valid}
use Rattle.fd_chk.proofs.Taken.{took-none}
use Rattle.fd_chk.proofs.TakingRows.{read_did, read_failed}
use Rattle.fd_chk.proofs.taking.read_c.Goals as goal

pub returns-then-n-size-clause-row : goal.returns-then-n-size-clause-row
returns-then-n-size-clause-row g c = (λ w. rw (lt-ltb c.args.size c.args.n (omega arith)) refl, refl, refl)

pub returns-then-n-eq0-clause-row : goal.returns-then-n-eq0-clause-row
returns-then-n-eq0-clause-row g c =
    let valid : are_valid c.args.d c.args.n ≡ true = sym c.is_valid.ensures ∙ c.if-not-is_valid.false in
    read_did c.args.mem.now c.args.d c.args.n c.args.size (le-ltb c.args.size c.args.n (omega arith)) valid c.args.mem.now 0 _ _ (took-none c.args.d c.args.mem.now _)
    (omega arith) (λ l. absurd (omega (arith, l, c.if-n-eq0.true)))

pub returns-in-Ok-clause-row : goal.returns-in-Ok-clause-row
returns-in-Ok-clause-row g c =
    let valid : are_valid c.args.d c.args.n ≡ true = sym c.is_valid.ensures ∙ c.if-not-is_valid.false in
    read_did c.args.mem.now c.args.d c.args.n c.args.size (le-ltb c.args.size c.args.n (omega arith)) valid _ c.in-Ok.count _ _ c.in-Ok.ensures.took
    c.in-Ok.ensures.bound c.in-Ok.ensures.end

pub returns-in-Err-clause-row : goal.returns-in-Err-clause-row
returns-in-Err-clause-row g c =
    let valid : are_valid c.args.d c.args.n ≡ true = sym c.is_valid.ensures ∙ c.if-not-is_valid.false in
    read_failed c.args.mem.now c.args.d c.args.n c.args.size (le-ltb c.args.size c.args.n (omega arith)) valid _ _ c.in-Err.ensures.failed
