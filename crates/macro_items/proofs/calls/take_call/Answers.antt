use Rattle.std.proofs.Common.{arith}
use Rattle.std.proofs.lemmas.List.{map_push}
use Rattle.macro_meaning.specs.Turns.{call}
use Rattle.macro_items.specs.Views.{view, left}
use Rattle.macro_items.proofs.Gathering.{left_pop, goes_on, parts_here, ends_here, misses, left_none, seen_nothing}
use Rattle.macro_items.proofs.calls.take_call.Goals as goal

pub loop-item-init : goal.loop-item-init
loop-item-init c = record {
  same = rw (c.requires.args, c.requires.current) (seen_nothing (call 0 (left c.args.pending.now.items)));
  room = omega arith;
}

pub returns-in-Ends-clause-found : goal.returns-in-Ends-clause-found
returns-in-Ends-clause-found c =
    ends_here _ _ c.loop-item.nest (view c.in-Some.item) _ _ _
    (left_pop _ _ _ c.in-Some.ensures.items) c.in-Ends.ensures.is c.loop-item.invariant.same

pub loop-item-preserved-in_ok-push-in-Parts : goal.loop-item-preserved-in_ok-push-in-Parts
loop-item-preserved-in_ok-push-in-Parts c = record {
  same = rw (c.in_ok-push-in-Parts.ensures.ok, c.replace-whole.ensures.after, c.replace-whole.ensures.value, c.new.ensures.items, map_push)
      (parts_here _ _ c.loop-item.nest (view c.in-Some.item) _ _ _
      (left_pop _ _ _ c.in-Some.ensures.items) c.in-Parts.ensures.is c.loop-item.invariant.same);
  room = omega arith;
}

pub loop-item-preserved-in_ok-push-in-Parts-2 : goal.loop-item-preserved-in_ok-push-in-Parts-2
loop-item-preserved-in_ok-push-in-Parts-2 c = record {
  same = rw (c.in_ok-push-in-Parts.ensures.ok, c.replace-whole.ensures.after, c.replace-whole.ensures.value, c.new.ensures.items, map_push)
      (parts_here _ _ c.loop-item.nest (view c.in-Some.item) _ _ _
      (left_pop _ _ _ c.in-Some.ensures.items) c.in-Parts.ensures.is c.loop-item.invariant.same);
  room = omega arith;
}

pub loop-item-preserved : goal.loop-item-preserved
loop-item-preserved c = record {
  same = rw (c.in_ok-push-in-Goes.ensures.items, map_push)
      (goes_on _ _ c.loop-item.nest c.in-Goes.now (view c.in-Some.item) _ _ _
      (left_pop _ _ _ c.in-Some.ensures.items) c.in-Goes.ensures.is c.loop-item.invariant.same);
  room = omega (arith, c.in-Goes.ensures.near, c.in-Some.ensures.cases);
}

pub returns-clause-found : goal.returns-clause-found
returns-clause-found c =
    let e = rw c.in_default.is at c.pop.ensures.cases in misses _ _ c.loop-item.nest _ _
    (left_none c.loop-item.pending.items (omega arith)) c.loop-item.invariant.same
