use Rattle.std.proofs.Common.{arith}
use Rattle.parse_aggregates.proofs.Knots.{outer_spec-zero, outer_spec_deeper}
use Rattle.parse_aggregates.proofs.specifiers.+outer_spec.Goals as goal

pub returns-then-depth-eq0-clause-reads : goal.returns-then-depth-eq0-clause-reads
returns-then-depth-eq0-clause-reads t c _ = outer_spec-zero _ _ (omega arith)

pub returns-clause-reads : goal.returns-clause-reads
returns-clause-reads t c = rw (outer_spec_deeper c.args.depth c.args.tokens.now (omega arith)) c.any.ensures.reads
