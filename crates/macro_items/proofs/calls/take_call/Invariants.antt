use Rattle.std.proofs.Common.{◌≡◌, ◌+◌, ◌≤◌, vec_len}
use Rattle.macro_meaning.specs.Turns.{call}
use Rattle.macro_items.specs.Views.{argument_views, views, left}
use Rattle.macro_items.proofs.Gathering.{seen, whole}
use Rattle.macro_items.proofs.calls.take_call.Given as goal

abbrev pub invariant-loop-item : goal.invariant-loop-item
invariant-loop-item l = record {
  same : seen (argument_views l.args.items) (views l.current.items) (call l.nest (left l.pending.items)) ≡ whole
      (call 0 (left l.initial.pending.items));
  room : l.nest + vec_len l.pending ≤ vec_len l.initial.pending;
}

abbrev pub decreases-loop-item : goal.decreases-loop-item
decreases-loop-item l = vec_len l.pending
