use Rattle.std.proofs.Common.{◌≡◌, ℕ, ◌+◌, ◌≤◌, true, List, take, Option, None, Some, sym, ◌∙◌, subst, arith}
use Rattle.std.specs.Prelude.{slice_range}
use Rattle.memchr.specs.Find.{IsFirstByte, is_byte}
use Rattle.library_meaning.specs.Memory.{are_valid}
use Rattle.host_bytes.proofs.Scans.{found_byte, found_ends, found_leaves, found_nothing, front_of}
use Rattle.host_bytes.proofs.finding.find.Goals as goal

-- what was found in the bytes that were searched, as one of those that count
near : (byte : ℕ) (m : List ℕ) (a most reach : ℕ) (o : Option ℕ) → most ≤ reach → IsFirstByte (is_byte byte) (take most (slice_range m a (a + reach))) o → IsFirstByte (is_byte byte) (slice_range m a (a + most)) o
near byte m a most reach o le first = subst (λ xs. IsFirstByte (is_byte byte) xs o) (front_of m a most reach le) first

pub returns-then-limit-eq0-clause-found : goal.returns-then-limit-eq0-clause-found
returns-then-limit-eq0-clause-found c = found_nothing c.args.byte c.args.memory.now c.args.address c.args.limit c.if-limit-eq0.true

pub returns-in-Some-clause-found : goal.returns-in-Some-clause-found
returns-in-Some-clause-found c =
    let valid : are_valid c.args.address 1 ≡ true = sym c.is_valid.ensures ∙ c.if-not-is_valid.false in
    (found_byte c.args.byte c.args.memory.now c.args.address c.args.limit c.min-most.result c.in-Some.k c.requires valid c.if-limit-eq0.false c.min-most.ensures (near c.args.byte c.args.memory.now c.args.address c.min-most.result c.min-reach.result (Some c.in-Some.k) (omega (arith, c.min-reach.ensures)) (rw c.in-Some.is at c.first_of.ensures))).0

pub returns-then-most-limit-clause-found : goal.returns-then-most-limit-clause-found
returns-then-most-limit-clause-found c =
    let valid : are_valid c.args.address 1 ≡ true = sym c.is_valid.ensures ∙ c.if-not-is_valid.false in
    found_ends (is_byte c.args.byte) c.args.memory.now c.args.address c.args.limit c.min-most.result c.requires valid c.if-limit-eq0.false c.min-most.ensures (near c.args.byte c.args.memory.now c.args.address c.min-most.result c.min-reach.result None (omega (arith, c.min-reach.ensures)) (rw c.in-None.is at c.first_of.ensures)) c.if-most-limit.true

pub returns-else-most-limit-clause-found : goal.returns-else-most-limit-clause-found
returns-else-most-limit-clause-found c =
    let valid : are_valid c.args.address 1 ≡ true = sym c.is_valid.ensures ∙ c.if-not-is_valid.false in
    found_leaves (is_byte c.args.byte) c.args.memory.now c.args.address c.args.limit c.min-most.result c.requires valid c.if-limit-eq0.false c.min-most.ensures (near c.args.byte c.args.memory.now c.args.address c.min-most.result c.min-reach.result None (omega (arith, c.min-reach.ensures)) (rw c.in-None.is at c.first_of.ensures)) c.if-most-limit.false
