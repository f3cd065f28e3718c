-- The code so far, what is found behind it, and the function that is near.
use Rattle.std.proofs.Common.{◌≡◌, ◌-◌, length}
use Rattle.bm_image.specs.Parts.{instructions, code_count}
use Rattle.bm_image.specs.Reading.{IsNear, AreRead}
use Rattle.bm_image.proofs.Judged.{Carries}
use Rattle.bm_image.proofs.reading.read_code.Given as goal

abbrev pub invariant-loop-i : goal.invariant-loop-i
invariant-loop-i l = record {
  count : length l.code.items ≡ l.i;
  read : AreRead l.bytes l.code.items;
  near : IsNear l.functions l.size l.k l.i;
  carries : Carries l.bytes (instructions l.i (code_count l.bytes - l.i)) (instructions 0 (code_count l.bytes));
}
