use Rattle.std.proofs.Common.{◌+◌, ◌-◌, ◌*◌, ◌≤◌, ◌<◌, drop, length, vec_len}
use Rattle.macro_meaning.specs.Macros.{nesting_limit}
use Rattle.c_tokens.specs.Tokens.{token_limit}
use Rattle.macro_meaning.specs.Macros.{has}
use Rattle.macro_items.specs.Views.{views, left, table, argument_views, body_part_views}
use Rattle.macro_replacement.proofs.Completions.{Completes, Adds}
use Rattle.macro_replacement.proofs.replacement.+replacement.Given as goal

abbrev pub decreases-make_ready : goal.decreases-make_ready
decreases-make_ready l = 6 * (nesting_limit - l.setting.now.depth)

abbrev pub decreases-substitute : goal.decreases-substitute
decreases-substitute l = 6 * (nesting_limit - l.setting.now.depth) + 1

abbrev pub decreases-put : goal.decreases-put
decreases-put l = 6 * (nesting_limit - l.setting.now.depth) + 2

abbrev pub decreases-stays : goal.decreases-stays
decreases-stays l = 6 * (nesting_limit - l.setting.now.depth) + 3

abbrev pub decreases-expand_into : goal.decreases-expand_into
decreases-expand_into l = 6 * (nesting_limit - l.setting.now.depth) + 4

abbrev pub decreases-run : goal.decreases-run
decreases-run l = 6 * (nesting_limit - l.setting.now.depth) + 5

abbrev pub invariant-expand_into-loop-item : goal.invariant-expand_into-loop-item
invariant-expand_into-loop-item l = record {
  from : l.from ≤ l.count;
  owed : Completes (table l.setting.macros.now) l.setting.depth l.from (left l.initial.pending.items) (views l.done.items) l.count
      (left l.pending.items);
}

abbrev pub decreases-expand_into-loop-item : goal.decreases-expand_into-loop-item
decreases-expand_into-loop-item l = 2 * (token_limit - l.count) + vec_len l.pending

abbrev pub invariant-substitute-loop-part : goal.invariant-substitute-loop-part
invariant-substitute-loop-part l = record {
  deep : 0 < length l.args → l.setting.depth < nesting_limit;
  from : l.from ≤ l.count;
  owed : Adds (table l.setting.macros.now) l.setting.depth l.place (has l.list.hides.new) l.from (argument_views l.fn.args)
      (body_part_views l.list.body.now) l.initial.new.items l.new.items l.count (argument_views l.args)
      (body_part_views (drop l.part-index l.list.body.now));
}
