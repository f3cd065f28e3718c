-- A refusal by the first broken rule is the same, whatever the value would be.
use Rattle.std.specs.Prelude.{Option, Some, None, Err}
use Rattle.std.proofs.Common.{rules}
use Rattle.fc_base.specs.declared.refusals.Fault.{Fault}
use Rattle.fc_base.specs.declared.refusals.Fault.TheVariants.{Refused, NoMemory}
use Rattle.fc_base.specs.declared.refusals.Place.{Place}
use Rattle.fc_base.specs.declared.rules.Rule.{Rule}
use Rattle.elab_meaning.specs.Typing.{by_rule}
use Rattle.elab_conversions.specs.Answers.{Gives}

pub same_refusal : {A B : Type 0} → (fault : Fault) → (place : Place) → (rule : Option Rule) → (a : A) → (b : B)
    → Gives (Err fault) (by_rule place rule a) → Gives (Err fault) (by_rule place rule b)
same_refusal NoMemory place rule a b given = tt
same_refusal (Refused r) place None a b given = search rules
same_refusal (Refused r) place (Some rule) a b given = search rules
