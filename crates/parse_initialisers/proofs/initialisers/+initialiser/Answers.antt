use Rattle.std.proofs.Common.{arith}
use Rattle.parse_initialisers.proofs.Knots.{initialiser-zero, initialiser_deeper}
use Rattle.parse_initialisers.proofs.initialisers.+initialiser.Goals as goal

pub returns-then-depth-eq0-clause-reads : goal.returns-then-depth-eq0-clause-reads
returns-then-depth-eq0-clause-reads t c _ = initialiser-zero _ _ (omega arith)

pub returns-clause-reads : goal.returns-clause-reads
returns-clause-reads t c = rw (initialiser_deeper c.args.depth c.args.tokens.now (omega arith)) c.any.ensures.reads
