-- No punctuator makes an expression of a level past all.
use Rattle.std.proofs.Common.{◌≤◌, arith}
use Rattle.c_tokens.specs.declared.puncts.Punct.{Punct}
use Rattle.parse_reading.specs.Reading.{operator_of_punct, operator_binds}

pub punct_low : (a : Punct) → operator_binds (operator_of_punct a) ≤ 17
punct_low a = grind arith
