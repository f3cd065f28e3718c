-- An instruction is refused where the bytes end within it, where it can't be decoded, or where it doesn't stand rightly.
use Rattle.std.proofs.Common.{◌≡◌, ◌≤◌, ◌+◌, ◌*◌, ◌∙◌, ap, sym, subst, take, drop, length, false, Some, None}
use Rattle.std.proofs.lemmas.Result.{err_from_is_err_and}
use Rattle.bm_isa.specs.Decoding.{bad_instr}
use Rattle.bm_isa.specs.Encoding.{instruction_bytes}
use Rattle.bm_isa.proofs.Decoded.{nothing_bad, same_bytes}
use Rattle.bm_image.specs.Parts.{Instruction, IsRight, functions_in, code_count, code_offset, Stands, wrong}
use Rattle.bm_image.specs.Reading.{stands}
use Rattle.bm_image.proofs.Judged.{short_is}
use Rattle.bm_image.proofs.Placed.{rightly, wrongly}
use Rattle.bm_image.proofs.reading.read_instruction.Goals as goal

pub returns-in_err-whole-clause-refused : goal.returns-in_err-whole-clause-refused
returns-in_err-whole-clause-refused c =
    let p = err_from_is_err_and c.from_residual.result c.from_residual.ensures.1 in
    rw (p.1, p.2) (short_is c.args.bytes.now (Instruction c.args.i) c.in_err-whole.field-0.0
    (rw c.requires.functions at c.in_err-whole.ensures.short))

pub returns-else-not-stands-clause-read : goal.returns-else-not-stands-clause-read
returns-else-not-stands-clause-read c =
    let bytes = c.args.bytes.now in
    let place = ap (λ n. take 16 (drop (32 + 20 * n + 16 * c.args.i) bytes)) c.requires.functions in
    let here = c.requires.inside in
    record {
      is = c.in-Ok.ensures.is;
      same = c.in-Ok.ensures.instruction ∙ c.sixteen.ensures ∙ place;
      rightly = rightly (functions_in bytes) (code_count bytes) c.requires.order c.args.i here.0 c.args.bounds.now c.in-Ok.instruction here.1 here.2
          (sym c.stands.ensures ∙ c.if-not-stands.false);
    }

pub returns-else-not-stands-clause-accepted : goal.returns-else-not-stands-clause-accepted
returns-else-not-stands-clause-accepted c =
    let read = returns-else-not-stands-clause-read c in
    record {
      whole = rw c.requires.functions at c.in_ok-whole.ensures.whole;
      right =
          (c.in-Ok.instruction, read.is, read.same, read.rightly);
    }

pub returns-then-not-stands-clause-refused : goal.returns-then-not-stands-clause-refused
returns-then-not-stands-clause-refused c =
    let bytes = c.args.bytes.now in
    let place = ap (λ n. take 16 (drop (32 + 20 * n + 16 * c.args.i) bytes)) c.requires.functions in
    let here = c.requires.inside in
    let test : stands c.args.bounds.now c.args.i c.in-Ok.instruction ≡ false = sym c.stands.ensures ∙ c.if-not-stands.true in
    let whole : code_offset bytes c.args.i + 16 ≤ length bytes = rw c.requires.functions at c.in_ok-whole.ensures.whole in
    rw c.requires.functions (wrong whole (λ (r : IsRight bytes (Instruction c.args.i)).
    let same = same_bytes r.0 c.in-Ok.instruction r.1 c.in-Ok.ensures.is (r.2 ∙ sym (c.in-Ok.ensures.instruction ∙ c.sixteen.ensures
    ∙ place)) in
    wrongly (functions_in bytes) (code_count bytes) c.args.i here.0 c.args.bounds.now c.in-Ok.instruction here.1 here.2 test
    (subst (Stands (functions_in bytes) (code_count bytes) c.args.i) same r.3)))

pub returns-in-Err-clause-refused : goal.returns-in-Err-clause-refused
returns-in-Err-clause-refused c =
    let bytes = c.args.bytes.now in
    let place = ap (λ n. take 16 (drop (32 + 20 * n + 16 * c.args.i) bytes)) c.requires.functions in
    let whole : code_offset bytes c.args.i + 16 ≤ length bytes = rw c.requires.functions at c.in_ok-whole.ensures.whole in
    rw c.requires.functions (wrong whole (λ (r : IsRight bytes (Instruction c.args.i)).
    let good : bad_instr (instruction_bytes r.0) ≡ None = nothing_bad r.0 r.1 in
    let found : bad_instr (instruction_bytes r.0) ≡ Some c.in-Err.field-0 = ap bad_instr (r.2 ∙ sym (c.sixteen.ensures ∙ place))
    ∙ c.in-Err.ensures.bad in
    absurd (cc (good, found))))
