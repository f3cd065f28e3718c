use Rattle.std.proofs.Common.{◌+◌, length, ◌∙◌, ap, sym, arith, length-drop}
use Rattle.std.proofs.lemmas.List.{map_push}
use Rattle.macro_items.specs.Views.{table, views}
use Rattle.macro_lines.proofs.Asking.{no_answer, one_answer, one_token, all_answered}
use Rattle.macro_lines.proofs.conditions.push_answered.Goals as goal

pub returns-in_default : goal.returns-in_default
returns-in_default c =
    no_answer (table c.args.macros.now)
    (views c.loop-at.answered.items) c.args.line.now c.loop-at.at c.index-line-at.result _ c.loop-at-test.true c.index-line-at.is
    c.loop-at.invariant.same
    (sym c.asks_defined.ensures ∙ c.if-asks_defined.true) (rw (c.in_default.is, c.after.ensures) at c.asked.ensures.found)

pub loop-at-preserved-then-asks_defined : goal.loop-at-preserved-then-asks_defined
loop-at-preserved-then-asks_defined c = record {
  same = rw (c.in_ok-push.ensures.items, map_push, c.answer.ensures)
      (one_answer (table c.args.macros.now) (views c.loop-at.answered.items) c.args.line.now c.loop-at.at c.index-line-at.result _
      c.loop-at-test.true c.index-line-at.is c.loop-at.invariant.same
      c.in-Some.name.now c.in-Some.used (sym c.asks_defined.ensures ∙ c.if-asks_defined.true)
      (rw c.after.ensures at c.in-Some.ensures.found));
  within = omega (arith, c.in-Some.ensures.within, ap length c.after.ensures, length-drop (c.loop-at.at + 1) c.args.line.now);
}

pub loop-at-preserved : goal.loop-at-preserved
loop-at-preserved c = record {
  same = rw (c.in_ok-push-2.ensures.items, map_push, c.item.ensures)
      (one_token (table c.args.macros.now) (views c.loop-at.answered.items) c.args.line.now c.loop-at.at c.index-line-at.result _
      c.loop-at-test.true c.index-line-at.is c.loop-at.invariant.same
      (sym c.asks_defined.ensures ∙ c.if-asks_defined.false));
  within = omega arith;
}

pub returns : goal.returns
returns c = all_answered (table c.args.macros.now) (views c.loop-at.answered.items) c.args.line.now c.loop-at.at _
    (omega arith) c.loop-at.invariant.same
