use Rattle.std.proofs.Common.{◌≡◌, ◌∙◌, ◌+◌, ◌≤◌, ◌<◌, suc, max, Some, length, [], sym, ap, rules, arith}
use Rattle.parse_reading.specs.Reading.{expression}
use Rattle.parse_reading.specs.ReadingDeclarators.{declarator}
use Rattle.parse_declarators.specs.Named.{as_read}
use Rattle.parse_declarators.specs.Suffixes.{in_parens, around}
use Rattle.parse_tokens.proofs.Binds.{none_along}
use Rattle.parse_declarators.proofs.Openings.{around_goes, around_fails, around_over}
use Rattle.parse_declarators.proofs.params.Declarators.around.Goals as goal

pub returns-in_err-left-clause-reads : goal.returns-in_err-left-clause-reads
returns-in_err-left-clause-reads g c =
    let fails = none_along c.loop-opening.invariant.same
    (around_fails c.args.self.now.depth c.loop-opening.outer c.pop.new.self c.in-Some.opening
    (as_read c.loop-opening.declarator c.loop-opening.tokens) c.in-Some.ensures) in
    let reads = rw c.in_err-left.ensures.err at c.in_parens-next.ensures.reads in
    search (rules, fails, reads)

pub loop-opening-preserved : goal.loop-opening-preserved
loop-opening-preserved g c =
    let depth = c.args.self.now.depth in
    let rest = c.in_parens-next.new.tokens in
    let both = c.in_ok-left.ensures.ok in
    let on : length rest < length c.loop-opening.tokens = rw both.1 at c.in_parens-next.ensures.on in
    let low : c.in_ok-left.next.height + length rest ≤ max c.loop-opening.declarator.height
    (depth + 1) + length c.loop-opening.tokens = rw both.1 at c.in_parens-next.ensures.low in
    let reads : in_parens (suc depth) (expression depth) (declarator depth) c.in-Some.opening
    (Some (as_read c.loop-opening.declarator c.loop-opening.tokens)) ≡ Some (as_read c.in_ok-left.next rest) =
    rw both.1 at c.in_parens-next.ensures.reads in
    record {
      on = omega (arith, on, c.loop-opening.invariant.on);
      low = omega (arith, on, low, c.loop-opening.invariant.on, c.loop-opening.invariant.low);
      same = c.loop-opening.invariant.same
          ∙ around_goes depth c.loop-opening.outer c.pop.new.self c.in-Some.opening
          (as_read c.loop-opening.declarator c.loop-opening.tokens) (as_read c.in_ok-left.next rest) c.in-Some.ensures reads
          ∙ ap (λ os. around (suc depth) (expression depth) (declarator depth) os (Some (as_read c.in_ok-left.next rest))) (sym both.0);
    }

pub returns-clause-reads : goal.returns-clause-reads
returns-clause-reads g c =
    let none_left : c.loop-opening.outer ≡ [] = search rules in
    c.loop-opening.invariant.same ∙ around_over c.args.self.now.depth c.loop-opening.outer
    (as_read c.loop-opening.declarator c.loop-opening.tokens) none_left
