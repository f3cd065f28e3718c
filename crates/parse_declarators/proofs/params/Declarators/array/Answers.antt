use Rattle.std.proofs.Common.{◌≡◌, suc, Some, subst}
use Rattle.parse_reading.specs.Reading.{bounded, found, expression}
use Rattle.parse_declarators.specs.Named.{GivesNamed}
use Rattle.parse_declarators.specs.Suffixes.{bracketed}
use Rattle.parse_declarators.proofs.params.Declarators.array.Goals as goal

pub returns-clause-reads : goal.returns-clause-reads
returns-clause-reads g c =
    let depth = c.args.self.now.depth in
    let rest = c.bracketed-size.new.tokens in
    let both = c.in_ok-of.ensures.ok in
    let size : bracketed (expression depth) c.args.tokens.now
    ≡ Some (found c.in_ok-of.size.tree c.in_ok-of.size.height rest) = rw both.1 at c.bracketed-size.ensures.reads in
    let within = subst (λ r. GivesNamed (bounded (suc depth) r) c.within.result rest) (c.in_ok-found.ensures.reads c.args.tokens.now rest)
    (c.within.ensures.reads rest) in
    rw size (rw both.0 at within)
