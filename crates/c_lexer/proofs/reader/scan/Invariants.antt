use Rattle.std.proofs.Common.{length, ◌-◌, ◌≡◌, ◌≤◌, drop, false}
use Rattle.c_tokens.specs.Tokens.{token_limit}
use Rattle.c_lexer.specs.Reading.{state, read, after_all}
use Rattle.c_lexer.specs.declared.reader.Line.TheVariants.{Start}
use Rattle.c_lexer.proofs.reader.scan.Given as goal

abbrev pub invariant-loop-at : goal.invariant-loop-at
invariant-loop-at l = record {
  owed : after_all l.tokens.items (read l.state 0 (drop l.at l.bytes) (drop l.at l.places)) ≡ read (state Start false) 0 l.bytes l.places;
  within : l.at ≤ length l.bytes;
  few : length l.tokens.items ≤ token_limit;
}

abbrev pub decreases-loop-at : goal.decreases-loop-at
decreases-loop-at l = length l.bytes - l.at
