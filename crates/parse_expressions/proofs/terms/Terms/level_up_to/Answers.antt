use Rattle.std.proofs.Common.{◌≡◌, None, refl, rules}
use Rattle.parse_reading.specs.Reading as spec
use Rattle.parse_expressions.proofs.terms.Terms.level_up_to.Goals as goal

pub returns-in_err-first-clause-reads : goal.returns-in_err-first-clause-reads
unfolding spec.begun
returns-in_err-first-clause-reads g c =
    let n = c.args.self.now.grammar.depth in
    let sub = spec.expression n in
    let fails : spec.prefix n sub c.args.tokens.now ≡ None
    → spec.level_up_to n sub c.args.level c.args.tokens.now ≡ None = λ f. rw f refl in
    search rules
