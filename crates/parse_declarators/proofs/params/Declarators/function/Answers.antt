use Rattle.std.proofs.Common.{◌≡◌, ◌+◌, ◌≤◌, ◌<◌, suc, max, Some, length, ap, ◌∙◌, subst, arith}
use Rattle.parse_reading.specs.Reading.{bounded, found, expression}
use Rattle.parse_reading.specs.ReadingDeclarators.{declarator}
use Rattle.parse_declarators.specs.Named.{GivesNamed}
use Rattle.parse_declarators.specs.Suffixes.{params_at}
use Rattle.parse_declarators.proofs.Lengths.{low_known}
use Rattle.parse_declarators.proofs.params.Declarators.function.Goals as goal

pub returns-clause-reads : goal.returns-clause-reads
returns-clause-reads g c =
    let depth = c.args.self.now.depth in
    let rest = c.params-params.new.tokens in
    let both = c.in_ok-of.ensures.ok in
    let params : params_at (suc depth) (expression depth) (declarator depth) c.args.tokens.now
    ≡ Some (found c.in_ok-of.params.tree c.in_ok-of.params.height rest) = rw both.1 at c.params-params.ensures.reads in
    let within = subst (λ r. GivesNamed (bounded (suc depth) r) c.within.result rest) (c.in_ok-found.ensures.reads c.args.tokens.now rest)
    (c.within.ensures.reads rest) in
    rw params (rw both.0 at within)

pub returns-clause-low : goal.returns-clause-low
returns-clause-low g c =
    let both = c.in_ok-of.ensures.ok in
    let rest = c.params-params.new.tokens in
    let on : length rest < length c.args.tokens.now = rw both.1 at c.params-params.ensures.on in
    let low : c.in_ok-of.params.height + length rest ≤ c.args.self.now.depth + length c.args.tokens.now = rw both.1 at
    c.params-params.ensures.low in
    let height : c.in_ok-found.found.height ≡ suc (max c.args.of.height c.in_ok-of.params.height) =
    c.in_ok-found.ensures.height ∙ ap (λ of. suc (max of.height c.in_ok-of.params.height)) both.0 in
    low_known (max c.args.of.height (c.args.self.now.depth + 1)) c.in_ok-found.found.height c.within.result c.args.tokens.now rest
    c.within.ensures.same (omega (arith, on, low, height))
