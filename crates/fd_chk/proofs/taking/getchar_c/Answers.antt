use Rattle.std.proofs.Common.{[], take, refl, subst, arith}
use Rattle.fc_base.specs.Outside.{Takes}
use Rattle.fd_chk.proofs.TakingRows.{getchar_did, getchar_took}
use Rattle.fd_chk.proofs.taking.getchar_c.Goals as goal

pub returns-in-Ok-eq0-clause-row : goal.returns-in-Ok-eq0-clause-row
returns-in-Ok-eq0-clause-row g c memory =
    let none = c.in-Ok-eq0.field-0-test in
    let taken = subst (λ k. Takes (take k c.read.new.buf) (g.I.Source.left c.args.input.now) (g.I.Source.left c.read.new.self)) none c.in-Ok-eq0.ensures.taken in
    getchar_did memory [] _ _ _ (record { are_bytes = tt; taken = taken; untold = c.in-Ok-eq0.ensures.untold }) (omega arith)
    (λ l. c.in-Ok-eq0.ensures.end none (omega arith)) refl

pub returns-in-Ok-clause-row : goal.returns-in-Ok-clause-row
returns-in-Ok-clause-row g c memory =
    getchar_took memory c.read.new.buf _ _ c.in-Ok.field-0 _ c.read.auto.buf c.in-Ok.ensures.bound c.in-Ok.field-0-test.1 c.character.ensures.same c.character.ensures.small
    c.in-Ok.ensures.taken c.in-Ok.ensures.untold
