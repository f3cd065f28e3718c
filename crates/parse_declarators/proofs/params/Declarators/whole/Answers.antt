use Rattle.std.proofs.Common.{◌≡◌, ◌+◌, ◌≤◌, ◌<◌, suc, max, Some, length, rules, arith}
use Rattle.std.proofs.lemmas.Result.{IfOk-weaker}
use Rattle.parse_reading.specs.Reading.{expression}
use Rattle.parse_reading.specs.ReadingDeclarators.{declarator}
use Rattle.parse_declarators.specs.Named.{as_read}
use Rattle.parse_declarators.specs.Suffixes.{closed}
use Rattle.parse_declarators.proofs.Lengths.{low_behind}
use Rattle.parse_declarators.proofs.Openings.{inner_goes, inner_fails, none_read}
use Rattle.parse_declarators.proofs.params.Declarators.whole.Goals as goal

pub returns-in_err-openings-clause-reads : goal.returns-in_err-openings-clause-reads
returns-in_err-openings-clause-reads g c =
    let fails = none_read c.args.self.now.depth c.args.tokens.now c.in_err-openings.ensures.reads in
    search (rules, fails)

pub returns-in_err-outer-clause-reads : goal.returns-in_err-outer-clause-reads
returns-in_err-outer-clause-reads g c =
    let fails = inner_fails c.args.self.now.depth c.in_ok-openings.openings.outer (c.in_ok-openings.ensures.reads c.args.self.now.depth) in
    let reads = rw c.in_err-outer.ensures.err at c.closed-inner.ensures.reads in
    search (rules, fails, reads)

pub returns-clause-reads : goal.returns-clause-reads
returns-clause-reads g c =
    let depth = c.args.self.now.depth in
    let rest = c.closed-inner.new.tokens in
    let both = c.in_ok-outer.ensures.ok in
    let inner : closed (suc depth) (expression depth) (declarator depth) c.in_ok-openings.openings.inmost
    (as_read c.in_ok-openings.name c.take_openings.new.tokens) ≡ Some (as_read c.in_ok-outer.inner rest) =
    rw both.1 at c.closed-inner.ensures.reads in
    rw (inner_goes depth c.in_ok-openings.openings.outer (c.in_ok-openings.ensures.reads depth) (as_read c.in_ok-outer.inner rest) inner)
    (rw both.0 at c.around.ensures.reads)

pub returns-clause-low : goal.returns-clause-low
returns-clause-low g c =
    let depth = c.args.self.now.depth in
    let behind = c.take_openings.new.tokens in
    let rest = c.closed-inner.new.tokens in
    let both = c.in_ok-outer.ensures.ok in
    let on : length rest ≤ length behind = rw both.1 at c.closed-inner.ensures.on in
    let low : c.in_ok-outer.inner.height + length rest ≤ max c.in_ok-openings.name.height
    (depth + 1) + 1 + length behind = rw both.1 at c.closed-inner.ensures.low in
    low_behind (depth + 1) (max c.in_ok-outer.inner.height (depth + 1)) c.around.result c.args.tokens.now rest c.around.new.tokens
    (omega (arith, on, low, c.in_ok-openings.ensures.low, c.in_ok-openings.ensures.on)) c.around.ensures.low

pub returns-clause-on : goal.returns-clause-on
returns-clause-on g c =
    let behind = c.take_openings.new.tokens in
    let rest = c.closed-inner.new.tokens in
    let on : length rest ≤ length behind = rw c.in_ok-outer.ensures.ok.1 at c.closed-inner.ensures.on in
    IfOk-weaker c.around.result (λ _. length c.around.new.tokens ≤ length rest) (λ _. length c.around.new.tokens < length c.args.tokens.now)
    (λ _ later. omega (arith, on, later, c.in_ok-openings.ensures.on)) c.around.ensures.on
