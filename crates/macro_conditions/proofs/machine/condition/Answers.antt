use Rattle.std.proofs.Common.{◌≡◌, Option, Bool, Result, Ok, Err, IfOk, List, sym, ◌∙◌, subst}
use Rattle.c_tokens.specs.declared.TokenKind.{TokenKind}
use Rattle.macro_conditions.specs.Conditions.{Decides, now}
use Rattle.macro_conditions.specs.Machine.{decision}
use Rattle.macro_conditions.proofs.Decisions.{decides, decision_is}
use Rattle.macro_conditions.proofs.machine.condition.Goals as goal

decides_as : {E : Type 0} (line : List TokenKind) (r : Result (Option Bool) E) → IfOk r (λ d. d ≡ decision line)
    → IfOk r (λ d. Decides line d)
decides_as line (Ok d) e = subst (λ (o : Option Bool). Decides line o) (sym e) (decides line)
decides_as line (Err x) e = tt

only_as : {E : Type 0} (line : List TokenKind) (r : Result (Option Bool) E) → IfOk r (λ d. d ≡ decision line)
    → IfOk r (λ d. (other : Option Bool) → Decides line other → other ≡ d)
only_as line (Ok d) e = λ other x. decision_is x ∙ sym e
only_as line (Err x) e = tt

pub returns-clause-decides : goal.returns-clause-decides
returns-clause-decides c = decides_as (now c.args.line.now) c.decided.result c.decided.ensures

pub returns-clause-only : goal.returns-clause-only
returns-clause-only c = only_as (now c.args.line.now) c.decided.result c.decided.ensures
