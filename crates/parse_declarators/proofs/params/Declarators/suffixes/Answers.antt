use Rattle.std.proofs.Common.{◌≡◌, ◌∙◌, Some, None, rules, arith}
use Rattle.parse_declarators.specs.declared.declarators.Suffix.TheVariants as suffix
use Rattle.parse_declarators.specs.Named.{as_read}
use Rattle.parse_declarators.specs.Suffixes.{suffix_at}
use Rattle.parse_tokens.proofs.Binds.{none_along}
use Rattle.parse_declarators.proofs.Suffixes.{array_goes, array_fails, function_goes, function_fails, suffixes_over}
use Rattle.parse_declarators.proofs.params.Declarators.suffixes.Goals as goal

pub returns-in_err-left-in-Array-clause-reads : goal.returns-in_err-left-in-Array-clause-reads
returns-in_err-left-in-Array-clause-reads g c =
    let next : suffix_at c.loop-suffix.tokens ≡ Some suffix.Array = first_of (cc, search rules) in
    let fails = none_along c.loop-suffix.invariant.same
    (array_fails c.args.self.now.depth c.args.start (as_read c.loop-suffix.left c.loop-suffix.tokens) next) in
    search (rules, fails)

pub returns-in_err-left-in-Function-clause-reads : goal.returns-in_err-left-in-Function-clause-reads
returns-in_err-left-in-Function-clause-reads g c =
    let next : suffix_at c.loop-suffix.tokens ≡ Some suffix.Function = first_of (cc, search rules) in
    let fails = none_along c.loop-suffix.invariant.same
    (function_fails c.args.self.now.depth c.args.start (as_read c.loop-suffix.left c.loop-suffix.tokens) next) in
    search (rules, fails)

pub loop-suffix-preserved-in_ok-left-in-Array : goal.loop-suffix-preserved-in_ok-left-in-Array
loop-suffix-preserved-in_ok-left-in-Array g c =
    let next : suffix_at c.loop-suffix.tokens ≡ Some suffix.Array = first_of (cc, search rules) in
    record {
      on = omega (arith, c.loop-suffix.invariant.on, c.in_ok-left-in-Array.ensures.on);
      low = omega (arith, c.loop-suffix.invariant.on, c.loop-suffix.invariant.low, c.in_ok-left-in-Array.ensures.low);
      same = c.loop-suffix.invariant.same
          ∙ array_goes c.args.self.now.depth c.args.start (as_read c.loop-suffix.left c.loop-suffix.tokens)
          (as_read c.in_ok-left-in-Array.left c.array.new.tokens) next
          c.in_ok-left-in-Array.ensures.reads c.in_ok-left-in-Array.ensures.on;
    }

pub loop-suffix-preserved : goal.loop-suffix-preserved
loop-suffix-preserved g c =
    let next : suffix_at c.loop-suffix.tokens ≡ Some suffix.Function = first_of (cc, search rules) in
    record {
      on = omega (arith, c.loop-suffix.invariant.on, c.in_ok-left-in-Function.ensures.on);
      low = omega (arith, c.loop-suffix.invariant.on, c.loop-suffix.invariant.low, c.in_ok-left-in-Function.ensures.low);
      same = c.loop-suffix.invariant.same
          ∙ function_goes c.args.self.now.depth c.args.start (as_read c.loop-suffix.left c.loop-suffix.tokens)
          (as_read c.in_ok-left-in-Function.left c.function.new.tokens) next
          c.in_ok-left-in-Function.ensures.reads c.in_ok-left-in-Function.ensures.on;
    }

pub returns-clause-reads : goal.returns-clause-reads
returns-clause-reads g c =
    let next : suffix_at c.loop-suffix.tokens ≡ None = first_of (cc, search rules) in
    c.loop-suffix.invariant.same ∙ suffixes_over c.args.self.now.depth c.args.start _ (as_read c.loop-suffix.left c.loop-suffix.tokens) next
