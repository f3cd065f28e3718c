use Rattle.std.proofs.Common.{arith}
use Rattle.parse_reading.specs.Reading as spec
use Rattle.parse_tokens.specs.Gives.{Gives}
use Rattle.parse_leaves.proofs.Lengths.{expression_shorter, shorter_given}
use Rattle.parse_expressions.proofs.Knots.{expression-zero, expression_deeper}
use Rattle.parse_expressions.proofs.expressions.+expression.Goals as goal

pub returns-then-depth-eq0-clause-reads : goal.returns-then-depth-eq0-clause-reads
returns-then-depth-eq0-clause-reads t c _ = expression-zero _ _ _ (omega arith)

pub returns-clause-reads : goal.returns-clause-reads
returns-clause-reads t c = rw (expression_deeper c.args.depth c.args.level c.args.tokens.now (omega arith)) c.level_up_to.ensures.reads

pub returns-clause-on : goal.returns-clause-on
returns-clause-on t c =
    let read = spec.expression c.args.depth c.args.level c.args.tokens.now in
    let reads : Gives read c.level_up_to.result c.level_up_to.new.tokens =
    rw (expression_deeper c.args.depth c.args.level c.args.tokens.now (omega arith)) c.level_up_to.ensures.reads in
    shorter_given read c.level_up_to.result c.args.tokens.now c.level_up_to.new.tokens reads
    (expression_shorter c.args.depth c.args.level c.args.tokens.now)
