use Rattle.std.proofs.Common.{◌≡◌, ◌+◌, ◌≤◌, length, drop}
use Rattle.parse_meaning.specs.Spans.{span}
use Rattle.parse_expr.proofs.spans.span_len.Given as goal

abbrev pub invariant-loop-i : goal.invariant-loop-i
invariant-loop-i l =
    (l.brackets ≤ l.i) × (l.questions ≤ l.i) × (length (span l.commas 0 0 l.tokens)
    ≡ l.i + length (span l.commas l.brackets l.questions (drop l.i l.tokens)))
