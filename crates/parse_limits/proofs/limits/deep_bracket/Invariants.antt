use Rattle.std.proofs.Common.{◌≡◌, ◌≤◌, drop}
use Rattle.parse_meaning.specs.File.{bracket_limit, first_deep}
use Rattle.parse_limits.proofs.limits.deep_bracket.Given as goal

abbrev pub invariant-loop-token : goal.invariant-loop-token
invariant-loop-token l = record {
  low : l.open ≤ bracket_limit;
  same : first_deep 0 l.tokens ≡ first_deep l.open (drop l.token-index l.tokens);
}
