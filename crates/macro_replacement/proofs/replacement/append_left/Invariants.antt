use Rattle.std.proofs.Common.{◌+◌, ◌-◌, ◌*◌, vec_len}
use Rattle.c_tokens.specs.Tokens.{token_limit}
use Rattle.macro_items.specs.Views.{left, table}
use Rattle.macro_replacement.proofs.Completions.{Wrote}
use Rattle.macro_replacement.proofs.replacement.append_left.Given as goal

abbrev pub invariant-loop-item : goal.invariant-loop-item
invariant-loop-item l =
    Wrote (table l.macros) l.from (left l.initial.pending.items) l.initial.done.items l.done.items l.count (left l.pending.items)

abbrev pub decreases-loop-item : goal.decreases-loop-item
decreases-loop-item l = 2 * (token_limit - l.count) + vec_len l.pending
