use Rattle.std.proofs.Common.{rules, arith}
use Rattle.std.proofs.lemmas.Grind.{common_steps}
use Rattle.parse_reading.specs.Reading as spec
use Rattle.parse_tokens.specs.Gives.{Gives}
use Rattle.parse_leaves.proofs.Lengths.{bound_shorter, shorter_given}
use Rattle.parse_type_names.proofs.grammar.Grammar.bound.Goals as goal

pub returns-in_default-clause-on : goal.returns-in_default-clause-on
returns-in_default-clause-on g c =
    let n = c.args.self.now.depth in
    let reads : Gives (spec.bound (spec.expression n) c.args.tokens.now) c.bound_some.result c.bound_some.new.tokens = first_of
    (search rules, grind (arith, common_steps)) in
    shorter_given (spec.bound (spec.expression n) c.args.tokens.now) c.bound_some.result c.args.tokens.now c.bound_some.new.tokens reads
    (bound_shorter n c.args.tokens.now)
