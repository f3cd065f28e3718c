use Rattle.c_lexer.proofs.LiteralLemmas.{step_bad, step_value, step_within, step_over}
use Rattle.c_lexer.proofs.literals.string_of.Goals as goal

pub returns-in_default : goal.returns-in_default
returns-in_default c =
    step_bad c.args.body.now c.rest_from.result.now c.loop-at.bytes.items c.loop-at.at c.character-size.result c.loop-at-test.true
    c.rest_from.ensures c.character-size.ensures.value c.in_default.is c.loop-at.invariant.owed

pub loop-at-preserved : goal.loop-at-preserved
loop-at-preserved c = record {
  owed =
      step_value c.args.body.now c.rest_from.result.now c.loop-at.bytes.items c.push.new.self.items c.loop-at.at c.in-Some.b
      c.character-size.result c.loop-at-test.true c.rest_from.ensures c.character-size.ensures.value c.in-Some.is
      (c.in_ok-push.ensures {u = tt}).items c.loop-at.invariant.owed;
  within =
      step_within c.args.body.now c.rest_from.result.now c.loop-at.at c.character-size.result.0 c.loop-at.invariant.within
      c.rest_from.ensures c.character-size.ensures.within.1;
}

pub returns : goal.returns
returns c =
    step_over c.args.body.now c.loop-at.bytes.items c.in_ok-text.text c.deref.result.now c.loop-at.at c.loop-at-test.false
    (c.in_ok-text.ensures {u = tt}) c.deref.ensures.value c.loop-at.invariant.owed
