use Rattle.std.proofs.Common.{◌≡◌, ◌-◌, ◌≤◌, length, drop, option_map}
use Rattle.macro_meaning.specs.Macros.{items}
use Rattle.macro_meaning.specs.Answering.{with_answers}
use Rattle.macro_items.specs.Views.{table, views}
use Rattle.macro_lines.proofs.Asking.{behind}
use Rattle.macro_lines.proofs.conditions.push_answered.Given as goal

abbrev pub invariant-loop-at : goal.invariant-loop-at
invariant-loop-at l = record {
  same : behind (views l.answered.items) (with_answers (table l.macros) 0 (drop l.at l.line)) ≡ option_map items
      (with_answers (table l.macros) 0 l.line);
  within : l.at ≤ length l.line;
}

abbrev pub decreases-loop-at : goal.decreases-loop-at
decreases-loop-at l = length l.line - l.at
