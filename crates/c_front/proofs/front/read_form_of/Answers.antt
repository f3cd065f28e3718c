-- The front's refusal, or what the accepted tokens come to.
use Rattle.std.proofs.Common.{sym}
use Rattle.std.proofs.lemmas.Result.{err_from_is_err_and}
use Rattle.fort_forms.proofs.Reading.{form_read}
use Rattle.c_front.specs.Served.{served}
use Rattle.c_front.proofs.Serving.{refused_front, served_so}
use Rattle.c_front.proofs.front.read_form_of.Goals as goal

pub returns-in_err-expanded-clause-is : goal.returns-in_err-expanded-clause-is
returns-in_err-expanded-clause-is c =
    let p = err_from_is_err_and c.from_residual.result c.from_residual.ensures.1 in
    rw (p.1, p.2) (refused_front c.args.level c.args.source.now c.in_err-expanded.field-0.0 c.in_err-expanded.ensures)

pub returns-in-Some-clause-is : goal.returns-in-Some-clause-is
returns-in-Some-clause-is c =
    served c.in_ok-expanded.ensures (served_so _ _ (sym (rw c.deref.ensures.value at c.in-Some.ensures)))

pub returns-in-Some-clause-form : goal.returns-in-Some-clause-form
returns-in-Some-clause-form c = (form_read _ c.in-Some.form (sym c.in-Some.ensures)).0

pub returns-clause-is : goal.returns-clause-is
returns-clause-is c =
    served c.in_ok-expanded.ensures (served_so _ _ (sym (rw c.deref.ensures.value at c.in-None.ensures)))
