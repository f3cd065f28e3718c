use Rattle.std.proofs.Common.{◌≡◌, drop}
use Rattle.parse_meaning.specs.File.{first_left_out}
use Rattle.parse_limits.proofs.limits.left_out_keyword.Given as goal

abbrev pub invariant-loop-token : goal.invariant-loop-token
invariant-loop-token l = first_left_out l.tokens ≡ first_left_out (drop l.token-index l.tokens)
