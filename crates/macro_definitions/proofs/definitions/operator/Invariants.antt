use Rattle.std.proofs.Common.{◌≡◌, drop}
use Rattle.std.specs.Prelude.{find}
use Rattle.macro_meaning.specs.Definitions.{is_operator}
use Rattle.macro_definitions.proofs.definitions.operator.Given as goal

abbrev pub invariant-loop-token : goal.invariant-loop-token
invariant-loop-token l = find (λ t. is_operator t.kind) l.tokens ≡ find (λ t. is_operator t.kind) (drop l.token-index l.tokens)
