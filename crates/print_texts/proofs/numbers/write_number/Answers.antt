use Rattle.std.proofs.Common.{arith}
use Rattle.std.proofs.lemmas.Fmt.{length-decimal-le}
use Rattle.print_texts.proofs.numbers.write_number.Goals as goal

pub write_digits-start-requires : goal.write_digits-start-requires
write_digits-start-requires c = (length-decimal-le 22 c.unsigned_abs.result (omega arith) (omega arith) (omega arith), omega arith)

pub write_digits-requires : goal.write_digits-requires
write_digits-requires c = (length-decimal-le 22 c.extend-in-Unsigned.result (omega arith) (omega arith) (omega arith), omega arith)
