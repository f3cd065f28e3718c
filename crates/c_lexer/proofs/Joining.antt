-- The text with its lines joined is what the reader goes over byte after byte.
use Rattle.std.proofs.Common.{◌≡◌, ℕ, ◌+◌, ◌-◌, ◌<◌, ◌==◌, ◌&&◌, ◌||◌, not, Bool, true, false, cond, if◌then◌else◌, List, [], ◌∷◌, ◌++◌, length, take, map, reverse, get_or, refl, sym, ap, ◌∙◌, append_assoc, add-zero, arith}
use Rattle.std.specs.List.{count_by, filter, prefix_len, range_with_len}
use Rattle.std.proofs.lemmas.List.{length-append, reverse-append, get_or-append-add, get_or_append_left}
use Rattle.std.proofs.lemmas.List.Sums.{sum_by-append}
use Rattle.std.proofs.Math.Seq.{take-append_seam, get_or-append_seam}
use Rattle.std.proofs.Math.Bool.{or-true}
use Rattle.std.proofs.lemmas.Bool.{and_parts, eqb-true}
use Rattle.c_tokens.specs.Bytes.{is_newline}
use Rattle.c_lexer.specs.Places.{Cell, cell_at, is_splice, is_left_out, cell_of, placed}
use Rattle.c_lexer.specs.Joined.{begins_line, joined}

-- ---- what stands before a byte

abbrev line_behind : List ℕ → ℕ
line_behind before = 1 + count_by is_newline before

abbrev column_behind : List ℕ → ℕ
column_behind before = 1 + prefix_len (λ b. not (is_newline b)) (reverse before)

abbrev last : List ℕ → ℕ
last before = get_or before (length before - 1) 0

-- a backslash stands last, and a newline follows
abbrev is_joined : List ℕ → List ℕ → Bool
is_joined before bs = last before == 92 && begins_line bs

line_more : (before : List ℕ) (b : ℕ) → line_behind (before ++ b ∷ []) ≡ line_behind before + cond (is_newline b) 1 0
line_more before b = let e = sum_by-append (λ x. cond (is_newline x) 1 0) before (b ∷ []) in omega (arith, e)

column_more : (before : List ℕ) (b : ℕ) → column_behind (before ++ b ∷ []) ≡ 1 + cond (not (is_newline b)) (column_behind before) 0
column_more before b = ap (λ (xs : List ℕ). 1 + prefix_len (λ b. not (is_newline b)) xs) (reverse-append before (b ∷ []))

last_more : (before : List ℕ) (b : ℕ) → last (before ++ b ∷ []) ≡ b
last_more before b =
    let size : length (before ++ b ∷ []) - 1 ≡ length before = omega (arith, length-append before (b ∷ [])) in
    ap (λ (i : ℕ). get_or (before ++ b ∷ []) i 0) size ∙ get_or-append_seam before b [] 0

-- ---- one byte of the text

begins_is : (bs : List ℕ) → is_newline (get_or bs 0 0) ≡ begins_line bs
begins_is [] = refl
begins_is (b ∷ bs) = refl

or_itself : (v : Bool) → (v || v) ≡ (v || false)
or_itself true = refl
or_itself false = refl

module _ (before : List ℕ) (b : ℕ) (bs : List ℕ) where
  abbrev whole : List ℕ
  whole = before ++ b ∷ bs

  abbrev here : ℕ
  here = length before

  byte_is : get_or whole here 0 ≡ b
  byte_is = get_or-append_seam before b bs 0

  next_is : is_newline (get_or whole (here + 1) 0) ≡ begins_line bs
  next_is = ap is_newline (get_or-append-add before (b ∷ bs) 1 0) ∙ begins_is bs

  splice_is : is_splice whole here ≡ (b == 92 && begins_line bs)
  splice_is = rw (byte_is, next_is) refl

  behind_is : 0 < here → is_splice whole (here - 1) ≡ (last before == 92 && is_newline b)
  behind_is some =
      let next : here - 1 + 1 ≡ here = omega arith in
      let first : get_or whole (here - 1) 0 ≡ last before = get_or_append_left before (b ∷ bs) 0 (here - 1) (omega arith) in
      rw (next, byte_is, first) refl

left_out_is : (before : List ℕ) (b : ℕ) (bs : List ℕ)
    → is_left_out (before ++ b ∷ bs) (length before) ≡ ((b == 92 && begins_line bs) || (last before == 92 && is_newline b))
left_out_is [] b bs = rw (begins_is bs) (or_itself (b == 92 && begins_line bs))
left_out_is (c ∷ cs) b bs = rw (splice_is (c ∷ cs) b bs, behind_is (c ∷ cs) b bs (omega arith)) refl

-- ---- the cells from a place on

abbrev cells_from : List ℕ → List ℕ → List Cell
cells_from before bs =
    map (cell_of (before ++ bs)) (filter (λ i. not (is_left_out (before ++ bs) i)) (range_with_len (length before) (length bs)))

abbrev kept : Bool → Cell → List Cell → List Cell
kept out cell cells = if out then cells else cell ∷ cells

cells_step : (whole : List ℕ) (here : ℕ) (rest : List ℕ) (out : Bool) → is_left_out whole here ≡ out
    → map (cell_of whole) (filter (λ i. not (is_left_out whole i)) (here ∷ rest))
    ≡ kept out (cell_of whole here) (map (cell_of whole) (filter (λ i. not (is_left_out whole i)) rest))
cells_step whole here rest true e = rw e refl
cells_step whole here rest false e = rw e refl

cells_more : (before : List ℕ) (b : ℕ) (bs : List ℕ) (out : Bool) → is_left_out (before ++ b ∷ bs) (length before) ≡ out
    → cells_from before (b ∷ bs) ≡ kept out (cell_at b (line_behind before) (column_behind before)) (cells_from (before ++ b ∷ []) bs)
cells_more before b bs out e =
    let front : take (length before) (before ++ b ∷ bs) ≡ before = take-append_seam before (b ∷ bs) in
    let size : length (before ++ b ∷ []) ≡ length before + 1 = length-append before (b ∷ []) in
    let same : (before ++ b ∷ []) ++ bs ≡ before ++ b ∷ bs = append_assoc before (b ∷ []) bs in
    cells_step (before ++ b ∷ bs) (length before) (range_with_len (length before + 1) (length bs)) out e
    ∙ rw (byte_is before b bs, front, size, same) refl

-- ---- the reader is within them

any_column : (line col col' : ℕ) (bs : List ℕ) → joined true line col bs ≡ joined true line col' bs
unfolding joined
any_column line col col' [] = refl
any_column line col col' (b ∷ bs) = refl

abbrev Joins : List ℕ → List ℕ → Type 0
Joins before bs = (v : Bool) → is_joined before bs ≡ v → joined v (line_behind before) (column_behind before) bs ≡ cells_from before bs

-- where a byte stands that follows this one
line_after : (before : List ℕ) (b : ℕ) (v : Bool) → is_newline b ≡ v → line_behind (before ++ b ∷ []) ≡ line_behind before + cond v 1 0
line_after before b v n = line_more before b ∙ ap (λ w. line_behind before + cond w 1 0) n

column_after : (before : List ℕ) (b : ℕ) (v : Bool) → is_newline b ≡ v
    → column_behind (before ++ b ∷ []) ≡ 1 + cond (not v) (column_behind before) 0
column_after before b v n = column_more before b ∙ ap (λ w. 1 + cond (not w) (column_behind before) 0) n

-- whether a newline that is left out comes behind it
joined_after : (before : List ℕ) (b : ℕ) (bs : List ℕ) (v : Bool) → (b == 92 && begins_line bs) ≡ v → is_joined (before ++ b ∷ []) bs ≡ v
joined_after before b bs v e = ap (λ n. n == 92 && begins_line bs) (last_more before b) ∙ e

joined_newline : (before : List ℕ) (b : ℕ) (bs : List ℕ) → is_joined before (b ∷ bs) ≡ true → Joins (before ++ b ∷ []) bs
    → joined true (line_behind before) (column_behind before) (b ∷ bs) ≡ cells_from before (b ∷ bs)
unfolding joined
joined_newline before b bs e so =
    let newline : is_newline b ≡ true = (and_parts (last before == 92) (is_newline b) e).1 in
    let ten : b ≡ 10 = eqb-true b 10 newline in
    let out : is_left_out (before ++ b ∷ bs) (length before) ≡ true = left_out_is before b bs
    ∙ rw e (or-true (b == 92 && begins_line bs)) in
    let behind : is_joined (before ++ b ∷ []) bs ≡ false = joined_after before b bs false (ap (λ n. n == 92 && begins_line bs) ten) in
    (rw (line_after before b true newline, column_after before b true newline) at so false behind) ∙ sym (cells_more before b bs true out)

joined_backslash : (before : List ℕ) (b : ℕ) (bs : List ℕ) → (b == 92 && begins_line bs) ≡ true → Joins (before ++ b ∷ []) bs
    → joined false (line_behind before) (column_behind before) (b ∷ bs) ≡ cells_from before (b ∷ bs)
unfolding joined
joined_backslash before b bs e so =
    let backslash : b ≡ 92 = eqb-true b 92 (and_parts (b == 92) (begins_line bs) e).0 in
    let out : is_left_out (before ++ b ∷ bs) (length before) ≡ true = left_out_is before b bs ∙ rw e refl in
    let line : line_behind (before ++ b ∷ []) ≡ line_behind before = line_after before b false (ap is_newline backslash)
    ∙ add-zero (line_behind before) in
    rw e (any_column (line_behind before) (column_behind before) (column_behind (before ++ b ∷ [])) bs)
    ∙ ap (λ (n : ℕ). joined true n (column_behind (before ++ b ∷ [])) bs) (sym line)
    ∙ so true (joined_after before b bs true e) ∙ sym (cells_more before b bs true out)

joined_kept : (before : List ℕ) (b : ℕ) (bs : List ℕ) (v : Bool) → is_newline b ≡ v → (b == 92 && begins_line bs) ≡ false
    → is_joined before (b ∷ bs) ≡ false → Joins (before ++ b ∷ []) bs
    → joined false (line_behind before) (column_behind before) (b ∷ bs) ≡ cells_from before (b ∷ bs)
unfolding joined
joined_kept before b bs v n e f so =
    let out : is_left_out (before ++ b ∷ bs) (length before) ≡ false = left_out_is before b bs ∙ rw (e, f) refl in
    let rest = rw (line_after before b v n, column_after before b v n) at so false (joined_after before b bs false e) in
    rw (e, n) (ap (λ (cs : List Cell). cell_at b (line_behind before) (column_behind before) ∷ cs) (goes_on v ∙ rest))
    ∙ sym (cells_more before b bs false out)
  where
    goes_on : (v : Bool)
        → (if v then joined false (line_behind before + 1) 1 bs else joined false (line_behind before) (column_behind before + 1) bs)
        ≡ joined false (line_behind before + cond v 1 0) (1 + cond (not v) (column_behind before) 0) bs
    goes_on true = refl
    goes_on false =
        let line : line_behind before ≡ line_behind before + 0 = omega arith in
        let column : column_behind before + 1 ≡ 1 + column_behind before = omega arith in
        ap (λ (n : ℕ). joined false n (column_behind before + 1) bs) line
        ∙ ap (λ (n : ℕ). joined false (line_behind before + 0) n bs) column

joined_step : (before : List ℕ) (b : ℕ) (bs : List ℕ) (v w : Bool) → is_joined before (b ∷ bs) ≡ v → (b == 92 && begins_line bs) ≡ w
    → Joins (before ++ b ∷ []) bs
    → joined v (line_behind before) (column_behind before) (b ∷ bs) ≡ cells_from before (b ∷ bs)
joined_step before b bs true w e f so = joined_newline before b bs e so
joined_step before b bs false true e f so = joined_backslash before b bs f so
joined_step before b bs false false e f so = joined_kept before b bs (is_newline b) refl f e so

joins : (before bs : List ℕ) → Joins before bs
unfolding joined
joins before [] = λ v e. refl
joins before (b ∷ bs) = λ v e. joined_step before b bs v (b == 92 && begins_line bs) e refl (joins (before ++ b ∷ []) bs)

pub placed_is : (bytes : List ℕ) → placed bytes ≡ joined false 1 1 bytes
unfolding placed
placed_is bytes = sym (joins [] bytes false refl)
