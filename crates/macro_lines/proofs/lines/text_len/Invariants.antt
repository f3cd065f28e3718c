use Rattle.std.proofs.Common.{◌≡◌, ◌+◌, ◌-◌, ◌≤◌, length, drop}
use Rattle.std.specs.List.{prefix_len}
use Rattle.macro_meaning.specs.Lines.{in_text}
use Rattle.macro_lines.proofs.lines.text_len.Given as goal

abbrev pub invariant-loop-end : goal.invariant-loop-end
invariant-loop-end l = (l.end + prefix_len in_text (drop l.end l.tokens) ≡ prefix_len in_text l.tokens) × (l.end ≤ length l.tokens)

abbrev pub decreases-loop-end : goal.decreases-loop-end
decreases-loop-end l = length l.tokens - l.end
