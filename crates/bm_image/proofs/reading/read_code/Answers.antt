-- The first instruction that is refused is the first part that is.
use Rattle.std.proofs.Common.{◌<◌, ◌≤◌, ◌∙◌, ap, subst, arith, length}
use Rattle.std.proofs.lemmas.List.{length-append}
use Rattle.std.proofs.lemmas.Result.{err_from_is_err_and}
use Rattle.bm_image.specs.Parts.{Instruction, Refuses, code_count}
use Rattle.bm_image.proofs.Judged.{handed_on, instruction_refused, instruction_accepted, instructions_done}
use Rattle.bm_image.proofs.Placed.{read_more, next_near}
use Rattle.bm_image.proofs.reading.read_code.Goals as goal

pub returns-in_err-instruction-clause-refused : goal.returns-in_err-instruction-clause-refused
returns-in_err-instruction-clause-refused c = λ fault is.
    let bytes = c.args.bytes.now in
    let p = err_from_is_err_and c.from_residual.result c.from_residual.ensures.1 in
    let same = handed_on c.from_residual.result p.0 c.in_err-instruction.field-0.0 fault p.1 p.2 is in
    let below : c.loop-i.i < code_count bytes = omega (arith, c.requires.size, c.loop-i-test.true) in
    instruction_refused bytes c.loop-i.i (code_count bytes) fault below c.loop-i.invariant.carries
    (subst (Refuses bytes (Instruction c.loop-i.i)) same c.in_err-instruction.ensures.refused)

pub loop-i-preserved : goal.loop-i-preserved
loop-i-preserved c =
    let bytes = c.args.bytes.now in
    let i = c.loop-i.i in
    let code = c.loop-i.code.items in
    let x = c.in_ok-instruction.instruction in
    let below : i < code_count bytes = omega (arith, c.requires.size, c.loop-i-test.true) in
    let grown = ap length c.in_ok-push.ensures.items ∙ length-append code _ in
    let count = c.loop-i.invariant.count in
    record {
      count = omega (arith, grown, count);
      read = read_more bytes code c.push.new.self.items i x count c.loop-i.invariant.read c.in_ok-instruction.ensures.read c.in_ok-push.ensures.items;
      near = next_near c.args.functions.now c.args.size c.function_of-k.result i c.function_of-k.ensures;
      carries = instruction_accepted bytes i (code_count bytes) below c.loop-i.invariant.carries c.in_ok-instruction.ensures.accepted;
    }

pub returns-clause-accepted : goal.returns-clause-accepted
returns-clause-accepted c =
    let bytes = c.args.bytes.now in
    let over : code_count bytes ≤ c.loop-i.i = omega (arith, c.requires.size, c.loop-i-test.false) in
    instructions_done bytes c.loop-i.i (code_count bytes) over c.loop-i.invariant.carries
