use Rattle.std.proofs.Common.{◌≡◌, ◌+◌, ◌≤◌, ◌++◌, length, false}
use Rattle.c_lexer.specs.Places.{bytes_of, places_of}
use Rattle.c_lexer.specs.Joined.{joined}
use Rattle.c_lexer.proofs.joined.join_lines.Given as goal

abbrev pub invariant-loop-bytes : goal.invariant-loop-bytes
invariant-loop-bytes l = record {
  bytes : l.left.items ++ bytes_of (joined l.is_joined l.place.line l.place.col l.bytes) ≡ bytes_of (joined false 1 1 l.fn.bytes);
  places : l.places.items ++ places_of (joined l.is_joined l.place.line l.place.col l.bytes) ≡ places_of (joined false 1 1 l.fn.bytes);
  line : l.place.line + length l.bytes ≤ length l.fn.bytes + 1;
  col : l.place.col + length l.bytes ≤ length l.fn.bytes + 1;
}

abbrev pub decreases-loop-bytes : goal.decreases-loop-bytes
decreases-loop-bytes l = length l.bytes
