use Rattle.std.proofs.Common.{suc}
use Rattle.parse_reading.specs.Reading as spec
use Rattle.parse_leaves.proofs.Lengths.{abstract_kept, kept_given}
use Rattle.parse_expressions.proofs.expressions.abstract_declarator.Goals as goal

pub returns-clause-on : goal.returns-clause-on
returns-clause-on c =
    kept_given (spec.abstract (spec.expression c.args.depth) (suc c.args.depth) c.args.place c.args.tokens.now) c.abstract_declarator.result
    c.args.tokens.now c.abstract_declarator.new.tokens
    c.abstract_declarator.ensures.reads (abstract_kept c.args.depth (suc c.args.depth) c.args.place c.args.tokens.now)
