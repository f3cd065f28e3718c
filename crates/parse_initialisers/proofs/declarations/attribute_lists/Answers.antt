use Rattle.std.proofs.Common.{◌≡◌, ◌≢◌, ◌∙◌, None, length, rules}
use Rattle.parse_tokens.specs.declared.faults.ParseFault.TheVariants as fault
use Rattle.parse_reading.specs.ReadingStatements.{attribute_lists}
use Rattle.parse_tokens.proofs.Turns.{one_more, no_more}
use Rattle.parse_leaves.proofs.AttributeSteps.{before}
use Rattle.parse_initialisers.proofs.Attributes.{lists_end, lists_fail, lists_go, lists_none}
use Rattle.parse_initialisers.proofs.declarations.attribute_lists.Goals as goal

pub returns-then-not-takes_attribute : goal.returns-then-not-takes_attribute
returns-then-not-takes_attribute c =
    let e = one_more (λ n. before c.loop-turn.lists (attribute_lists n c.loop-turn.tokens)) _ c.loop-turn._turn c.loop-turn-test.true
    c.loop-turn.invariant in
    e ∙ lists_end _ _ _ _ c.if-not-takes_attribute.ensures

pub returns-in_err-attribute_list : goal.returns-in_err-attribute_list
returns-in_err-attribute_list c =
    let e = one_more (λ n. before c.loop-turn.lists (attribute_lists n c.loop-turn.tokens)) _ c.loop-turn._turn c.loop-turn-test.true
    c.loop-turn.invariant in
    let none : c.in_err-attribute_list.field-0.0 ≢ fault.NoMemory → attribute_lists (length c.args.tokens.now) c.args.tokens.now ≡ None =
    λ other. e ∙ lists_fail _ _ _ _ c.if-not-takes_attribute.ensures (c.in_err-attribute_list.ensures.reads other) in
    search (rules, none)

pub loop-turn-preserved : goal.loop-turn-preserved
loop-turn-preserved c =
    let e = one_more (λ n. before c.loop-turn.lists (attribute_lists n c.loop-turn.tokens)) _ c.loop-turn._turn c.loop-turn-test.true
    c.loop-turn.invariant in
    let grown = c.in_ok-push.ensures in
    e ∙ rw grown.ok (lists_go _ _ _ _ _ _ c.if-not-takes_attribute.ensures c.in_ok-attribute_list.ensures.reads)

pub returns-then-takes_attribute : goal.returns-then-takes_attribute
returns-then-takes_attribute c =
    let e = no_more (λ n. before c.loop-turn.lists (attribute_lists n c.loop-turn.tokens)) _ c.loop-turn._turn c.loop-turn-test.false
    c.loop-turn.invariant in
    λ other. e ∙ lists_none _ _ _ c.if-takes_attribute.ensures

pub returns-else-takes_attribute : goal.returns-else-takes_attribute
returns-else-takes_attribute c =
    let e = no_more (λ n. before c.loop-turn.lists (attribute_lists n c.loop-turn.tokens)) _ c.loop-turn._turn c.loop-turn-test.false
    c.loop-turn.invariant in
    e ∙ lists_end _ _ _ _ c.if-takes_attribute.ensures
