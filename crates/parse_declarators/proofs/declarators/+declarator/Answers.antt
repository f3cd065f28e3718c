use Rattle.std.proofs.Common.{arith}
use Rattle.parse_declarators.proofs.Knots.{declarator-zero, declarator_deeper}
use Rattle.parse_declarators.proofs.declarators.+declarator.Goals as goal

pub returns-then-depth-eq0-clause-reads : goal.returns-then-depth-eq0-clause-reads
returns-then-depth-eq0-clause-reads t c _ = declarator-zero _ _ (omega arith)

pub returns-clause-reads : goal.returns-clause-reads
returns-clause-reads t c = rw (declarator_deeper c.args.depth c.args.tokens.now (omega arith)) c.whole.ensures.reads
