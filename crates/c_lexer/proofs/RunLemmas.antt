-- How far runs of bytes go.
use Rattle.std.proofs.Common.{◌≡◌, ℕ, ◌==◌, not, Bool, true, false, List, length, get_or, Option, Some, None, sym, ap, refl, arith}
use Rattle.std.specs.Option.{unwrap_or}
use Rattle.std.specs.List.{prefix_len}
use Rattle.std.proofs.lemmas.List.Sums.{prefix_len_is}
use Rattle.memchr.specs.Find.{IsFirstByte, is_byte}
use Rattle.c_tokens.specs.Bytes.{is_newline}

unequal : (b : Bool) → (b ≡ true → ⊥) → not b ≡ true
unequal true never = absurd (never refl)
unequal false never = refl

pub line_is : (bs : List ℕ) (r : Option ℕ) → IsFirstByte (is_byte 10) bs r
    → unwrap_or r (length bs) ≡ prefix_len (λ b. not (is_newline b)) bs
line_is bs None none =
    sym (prefix_len_is (λ b. not (is_newline b)) bs (length bs) 0 (omega arith)
    (λ k lt. unequal (get_or bs k 0 == 10) (none k (omega arith) lt)) (λ lt. absurd (omega arith)))
line_is bs (Some n) found =
    let before = found.0 in
    sym (prefix_len_is (λ b. not (is_newline b)) bs n 0 (let h = before.high in omega arith)
    (λ k lt. unequal (get_or bs k 0 == 10) (before.before k (omega arith) lt)) (λ lt. ap not found.1))
