use Rattle.std.proofs.Common.{◌≡◌, drop}
use Rattle.elab_meaning.specs.Typing.{first_broken}
use Rattle.elab_conversions.proofs.judging.judge.Given as goal

abbrev pub invariant-loop-rule : goal.invariant-loop-rule
invariant-loop-rule l = first_broken (drop l.rule-index l.checks) ≡ first_broken l.checks
