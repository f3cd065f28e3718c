-- What is read is the one instruction that has these bytes.
use Rattle.std.proofs.Common.{rules, ◌≡◌, ℕ, ◌<◌, length, get_or, slice_index, Some, None, Ok, ap, ◌∙◌}
use Rattle.bm_isa.specs.Decoding.{bad_instr, word_at}
use Rattle.bm_isa.proofs.Decoded.{same_bytes, nothing_bad, good_fields, whole}
use Rattle.bm_isa.proofs.decoding.decode.Goals as goal

pub returns-in-Some-clause-exact : goal.returns-in-Some-clause-exact
returns-in-Some-clause-exact c = λ i is same.
    let found : bad_instr c.args.bytes.now ≡ Some c.in-Some.bad = search rules in
    let none : bad_instr c.args.bytes.now ≡ None = ap bad_instr same ∙ nothing_bad i is in
    absurd (cc (found, none))

pub returns-in-None-clause-instruction : goal.returns-in-None-clause-instruction
returns-in-None-clause-instruction c =
    let none : bad_instr c.args.bytes.now ≡ None = search rules in
    let bytes = c.args.bytes.now in
    let good = good_fields (slice_index bytes 0) (slice_index bytes 1) (slice_index bytes 2) (slice_index bytes 3) (word_at bytes 4)
    (word_at bytes 8) (word_at bytes 12) none in
    let len : length c.args.bytes.now ≡ 16 = search rules in
    let small : (i : ℕ) → get_or c.args.bytes.now i 0 < 256 = search rules in
    c.instruction.ensures.bytes ∙ rw (c.word_at-a.ensures, c.word_at-b.ensures, c.word_at-c.ensures)
    (whole c.args.bytes.now len small good.spare_ok good.last_ok)

pub returns-in-None-clause-exact : goal.returns-in-None-clause-exact
returns-in-None-clause-exact c = λ i is same.
    ap Ok (same_bytes c.instruction.result i c.instruction.ensures.is is (returns-in-None-clause-instruction c ∙ same))
