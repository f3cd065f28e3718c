use Rattle.std.proofs.Common.{◌≡◌, ◌++◌, map, reverse}
use Rattle.std.specs.Int.Digits.{digits_of}
use Rattle.c_tokens.specs.Spelling.{octal_digit}
use Rattle.c_tokens.proofs.spellings.octal_digits.Given as goal

abbrev pub invariant-loop-value : goal.invariant-loop-value
invariant-loop-value l = map octal_digit (digits_of 8 l.value) ++ reverse l.digits.items ≡ map octal_digit (digits_of 8 l.fn.value)

abbrev pub decreases-loop-value : goal.decreases-loop-value
decreases-loop-value l = l.value
