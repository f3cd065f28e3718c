-- How the code's answer stands to the definition's: the same value or the same refusal; want of memory is left aside.
use Rattle.std.specs.Prelude.{◌≡◌, Result}
use Rattle.fc_base.specs.declared.refusals.Fault.{Fault}
use Rattle.fc_base.specs.declared.refusals.Refusal.{Refusal}
use Rattle.fc_base.specs.Answers.{Answers}

abbrev pub Gives : {A : Type 0} → Result A Fault → Result A Refusal → Type 0
Gives {A} result answer = Answers {X = A} {Y = A} (λ a. a) result (λ given. given ≡ answer)
