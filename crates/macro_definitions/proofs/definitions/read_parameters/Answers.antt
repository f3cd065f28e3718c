use Rattle.std.proofs.Common.{sym, ◌∙◌, arith}
use Rattle.macro_items.specs.Views.{names}
use Rattle.macro_definitions.proofs.Parameters.{known, unknown, distinct_push, few, no_name, repeated, last_one, another_one, neither}
use Rattle.macro_definitions.proofs.definitions.read_parameters.Goals as goal

pub returns-in_default : goal.returns-in_default
returns-in_default c =
    no_name (names c.loop-tokens.parameters.keys) c.loop-tokens.tokens.now _ c.index-tokens-0.result
    (omega arith) c.loop-tokens.invariant.same (rw c.in_default.is at c.name_of.ensures)

pub returns-then-not-branch : goal.returns-then-not-branch
returns-then-not-branch c =
    repeated (names c.loop-tokens.parameters.keys) c.loop-tokens.tokens.now _ c.index-tokens-0.result
    (omega arith) c.loop-tokens.invariant.same c.in-Some.name.now c.in-Some.ensures
    (known c.in_ok-add_parameter.field-0 _ c.in_ok-add_parameter.ensures.new c.if-not-branch.true)

pub returns-then-closes : goal.returns-then-closes
returns-then-closes c =
    let d = distinct_push (names c.loop-tokens.parameters.keys) c.in-Some.name.now c.loop-tokens.invariant.different
    (unknown c.in_ok-add_parameter.field-0 _ c.in_ok-add_parameter.ensures.new c.if-not-branch.false) in
    rw (c.in_ok-add_parameter.ensures.added c.if-not-branch.false, c.after-rest.ensures)
    (last_one (names c.loop-tokens.parameters.keys) c.loop-tokens.tokens.now _ c.index-tokens-0.result
    (omega arith) c.loop-tokens.invariant.same c.index-tokens-1.result c.in-Some.name.now c.in-Some.ensures d
    (sym c.closes.ensures ∙ c.if-closes.true))

pub loop-tokens-preserved : goal.loop-tokens-preserved
loop-tokens-preserved c =
    let d = distinct_push (names c.loop-tokens.parameters.keys) c.in-Some.name.now c.loop-tokens.invariant.different
    (unknown c.in_ok-add_parameter.field-0 _ c.in_ok-add_parameter.ensures.new c.if-not-branch.false) in record {
      different = rw (c.in_ok-add_parameter.ensures.added c.if-not-branch.false) d;
      same = rw (c.in_ok-add_parameter.ensures.added c.if-not-branch.false, c.after-rest.ensures)
          (another_one (names c.loop-tokens.parameters.keys) c.loop-tokens.tokens.now _ c.index-tokens-0.result
          (omega arith) c.loop-tokens.invariant.same c.index-tokens-1.result c.in-Some.name.now c.in-Some.ensures
          (sym c.closes.ensures ∙ c.if-closes.false) (sym c.is_comma.ensures ∙ c.if-not-is_comma.false));
    }

pub returns-then-not-is_comma : goal.returns-then-not-is_comma
returns-then-not-is_comma c =
    neither (names c.loop-tokens.parameters.keys) c.loop-tokens.tokens.now _ c.index-tokens-0.result
    (omega arith) c.loop-tokens.invariant.same c.index-tokens-1.result _ c.in-Some.ensures
    (sym c.closes.ensures ∙ c.if-closes.false) (sym c.is_comma.ensures ∙ c.if-not-is_comma.true)

pub returns : goal.returns
returns c = few (names c.loop-tokens.parameters.keys) c.loop-tokens.tokens.now _ (omega arith) c.loop-tokens.invariant.same
