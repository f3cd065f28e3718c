-- An instruction read back from its bytes.
use Rattle.std.proofs.Common.{◌≡◌, ℕ, zero, suc, ◌+◌, ◌*◌, ◌/◌, ◌%◌, ◌^◌, ◌<◌, ◌≤◌, List, [], ◌∷◌, ◌++◌, Bool, true, false, cond, ◌==◌, ◌&&◌, not, nat_lt, length, get_or, Option, Some, None, slice_index, slice_index_or, refl, sym, ◌∙◌, ap, arith, lit<}
use Rattle.std.specs.Int.{from_le_bytes, to_le_bytes, w32}
use Rattle.std.proofs.lemmas.Nat.{from_le_bytes-to_le_bytes_4, le_bytes_4}
use Rattle.fc_base.specs.declared.levels.Width.{Width}
use Rattle.fc_base.specs.declared.levels.Width.TheVariants as widths
use Rattle.bm_isa.specs.declared.instructions.BinaryOp.{BinaryOp}
use Rattle.bm_isa.specs.declared.instructions.BinaryOp.TheVariants as binary
use Rattle.bm_isa.specs.declared.instructions.DivideOp.TheVariants as divide
use Rattle.bm_isa.specs.declared.instructions.DivideWidth.{DivideWidth}
use Rattle.bm_isa.specs.declared.instructions.DivideWidth.TheVariants as dividing
use Rattle.bm_isa.specs.declared.instructions.Instr.{Instr}
use Rattle.bm_isa.specs.declared.instructions.Instr.TheVariants as instr
use Rattle.bm_isa.specs.Encoding.{with_width, instruction_bytes, binary_number}
use Rattle.bm_isa.specs.declared.decoding.BadInstr.{BadInstr}
use Rattle.bm_isa.specs.declared.decoding.BadInstr.TheVariants as bad
use Rattle.bm_isa.specs.Decoding.{word_at, allows_width, others_are_zero, bad_fields, bad_instr, IsInstr}

-- the words of sixteen bytes
word_a : (n w a b c : ℕ) → a < 2 ^ 32 → word_at (with_width n w a b c) 4 ≡ a
word_a n w a b c small = from_le_bytes-to_le_bytes_4 a small

word_b : (n w a b c : ℕ) → b < 2 ^ 32 → word_at (with_width n w a b c) 8 ≡ b
word_b n w a b c small = from_le_bytes-to_le_bytes_4 b small

word_c : (n w a b c : ℕ) → c < 2 ^ 32 → word_at (with_width n w a b c) 12 ≡ c
word_c n w a b c small = from_le_bytes-to_le_bytes_4 c small

-- what is made of the words is made of the numbers
read_back : {A : Type 0} (f : ℕ → ℕ → ℕ → A) (n w a b c : ℕ) → a < 2 ^ 32 → b < 2 ^ 32 → c < 2 ^ 32
    → f (word_at (with_width n w a b c) 4) (word_at (with_width n w a b c) 8) (word_at (with_width n w a b c) 12) ≡ f a b c
read_back f n w a b c x y z =
    ap (λ t. f t (word_at (with_width n w a b c) 8) (word_at (with_width n w a b c) 12)) (word_a n w a b c x)
    ∙ ap (λ t. f a t (word_at (with_width n w a b c) 12)) (word_b n w a b c y)
    ∙ ap (λ t. f a b t) (word_c n w a b c z)

-- what an instruction of each number is, with its width and its words
abbrev width_of : ℕ → Width
width_of n = cond (n == 1) widths.W1 (cond (n == 2) widths.W2 (cond (n == 4) widths.W4 widths.W8))

abbrev divide_width : ℕ → DivideWidth
divide_width n = cond (n == 4) dividing.W4 dividing.W8

abbrev Made : Type 0
Made = ℕ → ℕ → ℕ → ℕ → Instr

abbrev operation : BinaryOp → Made
operation op = λ w a b c. instr.Binary op a b c

abbrev made : List Made
made =
    (λ w a b c. instr.Const a (c * 2 ^ 32 + b)) ∷ (λ w a b c. instr.Move a b) ∷ (λ w a b c. instr.Slot a b)
    ∷ operation binary.Add ∷ operation binary.Sub ∷ operation binary.Mul ∷ operation binary.And ∷ operation binary.Or ∷ operation binary.Xor
    ∷ operation binary.ShiftLeft ∷ operation binary.ShiftRightUnsigned ∷ operation binary.ShiftRightSigned ∷ operation binary.MulHigh
    ∷ operation binary.DivUnsigned ∷ operation binary.RemUnsigned
    ∷ (λ w a b c. instr.Divide divide.Div (divide_width w) a b c) ∷ (λ w a b c. instr.Divide divide.Rem (divide_width w) a b c)
    ∷ (λ w a b c. instr.Extend true (width_of w) a b) ∷ (λ w a b c. instr.Extend false (width_of w) a b)
    ∷ operation binary.Equal ∷ operation binary.NotEqual ∷ operation binary.LessUnsigned ∷ operation binary.AtMostUnsigned
    ∷ operation binary.LessSigned ∷ operation binary.AtMostSigned ∷ operation binary.MinSigned ∷ operation binary.MaxSigned
    ∷ operation binary.MinUnsigned
    ∷ (λ w a b c. instr.Select a b c) ∷ (λ w a b c. instr.Load false (width_of w) a b) ∷ (λ w a b c. instr.Load true (width_of w) a b)
    ∷ (λ w a b c. instr.Store (width_of w) a b) ∷ (λ w a b c. instr.Copy a b c) ∷ (λ w a b c. instr.Zero a c)
    ∷ (λ w a b c. instr.Jump b) ∷ (λ w a b c. instr.JumpIfZero a b) ∷ (λ w a b c. instr.JumpIfNotZero a b)
    ∷ (λ w a b c. instr.Argument a b) ∷ (λ w a b c. instr.Call a b) ∷ (λ w a b c. instr.Return a) ∷ (λ w a b c. instr.Host a b c) ∷ []

-- the instruction and what is wrong, as one pair
abbrev Reading : Type 0
Reading = Instr × Option BadInstr

abbrev reads : ℕ → ℕ → ℕ → ℕ → ℕ → ℕ → ℕ → Reading
reads n w s t a b c = (slice_index_or made n (λ w a b c. instr.Jump 0) w a b c, bad_fields n w (s, t) a b c)

abbrev read : List ℕ → Reading
read bytes = reads (slice_index bytes 0) (slice_index bytes 1) (slice_index bytes 2) (slice_index bytes 3) (word_at bytes 4)
    (word_at bytes 8) (word_at bytes 12)

with_back : (n w a b c : ℕ) → a < 2 ^ 32 → b < 2 ^ 32 → c < 2 ^ 32 → read (with_width n w a b c) ≡ reads n w 0 0 a b c
with_back n w a b c x y z = read_back (λ a b c. reads n w 0 0 a b c) n w a b c x y z

-- an instruction is read from its bytes, and nothing is wrong with them
read_is : (i : Instr) → IsInstr i → read (instruction_bytes i) ≡ (i, None)
read_is (instr.Const to number) is =
    let most = is.1 in
    let joined : number / 2 ^ 32 * 2 ^ 32 + number % 2 ^ 32 ≡ number = omega arith in
    with_back 0 0 to (number % 2 ^ 32) (number / 2 ^ 32) is.0 (omega arith) (omega (arith, most))
    ∙ ap (λ n. (instr.Const to n, None)) joined
read_is (instr.Move to from) is = with_back 1 0 to from 0 is.0 is.1 (lit< tt)
read_is (instr.Slot to offset) is = with_back 2 0 to offset 0 is.0 is.1 (lit< tt)
read_is (instr.Binary op to left right) is = with_back (binary_number op) 0 to left right is.0 is.1 is.2 ∙ operated op where
  operated : (op : BinaryOp) → reads (binary_number op) 0 0 0 to left right ≡ (instr.Binary op to left right, None)
  operated binary.Add = refl
  operated binary.Sub = refl
  operated binary.Mul = refl
  operated binary.And = refl
  operated binary.Or = refl
  operated binary.Xor = refl
  operated binary.ShiftLeft = refl
  operated binary.ShiftRightUnsigned = refl
  operated binary.ShiftRightSigned = refl
  operated binary.MulHigh = refl
  operated binary.DivUnsigned = refl
  operated binary.RemUnsigned = refl
  operated binary.Equal = refl
  operated binary.NotEqual = refl
  operated binary.LessUnsigned = refl
  operated binary.AtMostUnsigned = refl
  operated binary.LessSigned = refl
  operated binary.AtMostSigned = refl
  operated binary.MinSigned = refl
  operated binary.MaxSigned = refl
  operated binary.MinUnsigned = refl
read_is (instr.Divide divide.Div dividing.W4 to left right) is = with_back 15 4 to left right is.0 is.1 is.2
read_is (instr.Divide divide.Div dividing.W8 to left right) is = with_back 15 8 to left right is.0 is.1 is.2
read_is (instr.Divide divide.Rem dividing.W4 to left right) is = with_back 16 4 to left right is.0 is.1 is.2
read_is (instr.Divide divide.Rem dividing.W8 to left right) is = with_back 16 8 to left right is.0 is.1 is.2
read_is (instr.Extend true widths.W1 to from) is = with_back 17 1 to from 0 is.0 is.1 (lit< tt)
read_is (instr.Extend true widths.W2 to from) is = with_back 17 2 to from 0 is.0 is.1 (lit< tt)
read_is (instr.Extend true widths.W4 to from) is = with_back 17 4 to from 0 is.0 is.1 (lit< tt)
read_is (instr.Extend true widths.W8 to from) is = with_back 17 8 to from 0 is.0 is.1 (lit< tt)
read_is (instr.Extend false widths.W1 to from) is = with_back 18 1 to from 0 is.0 is.1 (lit< tt)
read_is (instr.Extend false widths.W2 to from) is = with_back 18 2 to from 0 is.0 is.1 (lit< tt)
read_is (instr.Extend false widths.W4 to from) is = with_back 18 4 to from 0 is.0 is.1 (lit< tt)
read_is (instr.Extend false widths.W8 to from) is = with_back 18 8 to from 0 is.0 is.1 (lit< tt)
read_is (instr.Load false widths.W1 to at) is = with_back 29 1 to at 0 is.0 is.1 (lit< tt)
read_is (instr.Load false widths.W2 to at) is = with_back 29 2 to at 0 is.0 is.1 (lit< tt)
read_is (instr.Load false widths.W4 to at) is = with_back 29 4 to at 0 is.0 is.1 (lit< tt)
read_is (instr.Load false widths.W8 to at) is = with_back 29 8 to at 0 is.0 is.1 (lit< tt)
read_is (instr.Load true widths.W1 to at) is = with_back 30 1 to at 0 is.0 is.1 (lit< tt)
read_is (instr.Load true widths.W2 to at) is = with_back 30 2 to at 0 is.0 is.1 (lit< tt)
read_is (instr.Load true widths.W4 to at) is = with_back 30 4 to at 0 is.0 is.1 (lit< tt)
read_is (instr.Load true widths.W8 to at) is = with_back 30 8 to at 0 is.0 is.1 (lit< tt)
read_is (instr.Store widths.W1 from at) is = with_back 31 1 from at 0 is.0 is.1 (lit< tt)
read_is (instr.Store widths.W2 from at) is = with_back 31 2 from at 0 is.0 is.1 (lit< tt)
read_is (instr.Store widths.W4 from at) is = with_back 31 4 from at 0 is.0 is.1 (lit< tt)
read_is (instr.Store widths.W8 from at) is = with_back 31 8 from at 0 is.0 is.1 (lit< tt)
read_is (instr.Select to test from) is = with_back 28 0 to test from is.0 is.1 is.2
read_is (instr.Copy to_at from_at count) is = with_back 32 0 to_at from_at count is.0 is.1 is.2
read_is (instr.Zero at count) is = with_back 33 0 at 0 count is.0 (lit< tt) is.1
read_is (instr.Jump target) is = with_back 34 0 0 target 0 (lit< tt) is (lit< tt)
read_is (instr.JumpIfZero test target) is = with_back 35 0 test target 0 is.0 is.1 (lit< tt)
read_is (instr.JumpIfNotZero test target) is = with_back 36 0 test target 0 is.0 is.1 (lit< tt)
read_is (instr.Argument from slot) is = with_back 37 0 from slot 0 is.0 is.1 (lit< tt)
read_is (instr.Call to function) is = with_back 38 0 to function 0 is.0 is.1 (lit< tt)
read_is (instr.Return from) is = with_back 39 0 from 0 0 is (lit< tt) (lit< tt)
read_is (instr.Host to call count) is = with_back 40 0 to call count is.0 is.1 is.2

-- two instructions with the same bytes are one
pub same_bytes : (i j : Instr) → IsInstr i → IsInstr j → instruction_bytes i ≡ instruction_bytes j → i ≡ j
same_bytes i j is js same = ap (λ r. r.0) (sym (read_is i is) ∙ ap read same ∙ read_is j js)

-- nothing is wrong with the bytes of an instruction
pub nothing_bad : (i : Instr) → IsInstr i → bad_instr (instruction_bytes i) ≡ None
nothing_bad i is = ap (λ r. r.1) (read_is i is)

-- where nothing is wrong
pub record Good (number width spare last a b c : ℕ) : Type 0 where
  pub number_ok : number ≤ 40
  pub width_ok : allows_width number width ≡ true
  pub spare_ok : spare ≡ 0
  pub last_ok : last ≡ 0
  pub others_ok : others_are_zero number a b c ≡ true

pub good_fields : (number width spare last a b c : ℕ) → bad_fields number width (spare, last) a b c ≡ None
    → Good number width spare last a b c
good_fields number width spare last a b c none = go (nat_lt 40 number) (allows_width number width) (spare == 0) (last == 0)
    (others_are_zero number a b c) refl refl refl refl refl none where
      go : (n w s l o : Bool) → nat_lt 40 number ≡ n → allows_width number width ≡ w → (spare == 0) ≡ s → (last == 0) ≡ l
          → others_are_zero number a b c ≡ o
          → cond n (Some bad.Opcode) (cond (not w) (Some bad.WidthByte) (cond (not (s && (l && o))) (Some bad.Spare) None)) ≡ None
          → Good number width spare last a b c
      go true w s l o e f g h j none = absurd (cc none)
      go false false s l o e f g h j none = absurd (cc none)
      go false true false l o e f g h j none = absurd (cc none)
      go false true true false o e f g h j none = absurd (cc none)
      go false true true true false e f g h j none = absurd (cc none)
      go false true true true true e f g h j none = record {
        number_ok = grind (arith, e);
        width_ok = f;
        spare_ok = grind
            (arith, g);
        last_ok = grind (arith, h);
        others_ok = j;
      }

-- sixteen bytes are their number, their width, two spare bytes and their words
four : (a b c d : ℕ) → a < 256 → b < 256 → c < 256 → d < 256 → (i : ℕ) → get_or (a ∷ b ∷ c ∷ d ∷ []) i 0 < 256
four a b c d x y z w zero = x
four a b c d x y z w (suc zero) = y
four a b c d x y z w (suc (suc zero)) = z
four a b c d x y z w (suc (suc (suc zero))) = w
four a b c d x y z w (suc (suc (suc (suc i)))) = lit< tt

pub whole : (bytes : List ℕ) → length bytes ≡ 16 → ((i : ℕ) → get_or bytes i 0 < 256) → slice_index bytes 2 ≡ 0 → slice_index bytes 3 ≡ 0
    → with_width (slice_index bytes 0) (slice_index bytes 1) (word_at bytes 4) (word_at bytes 8) (word_at bytes 12) ≡ bytes
whole (n ∷ w ∷ s ∷ l ∷ a ∷ b ∷ c ∷ d ∷ e ∷ f ∷ g ∷ h ∷ i ∷ j ∷ k ∷ m ∷ []) len small spare last =
    let p = a ∷ b ∷ c ∷ d ∷ [] in
    let q = e ∷ f ∷ g ∷ h ∷ [] in
    let r = i ∷ j ∷ k ∷ m ∷ [] in
    let x = le_bytes_4 p _ refl (four a b c d (small 4) (small 5) (small 6) (small 7)) refl in
    let y = le_bytes_4 q _ refl (four e f g h (small 8) (small 9) (small 10) (small 11)) refl in
    let z = le_bytes_4 r _ refl (four i j k m (small 12) (small 13) (small 14) (small 15)) refl in
    ap (λ t. n ∷ w ∷ 0 ∷ 0 ∷ (t ++ (to_le_bytes w32 (from_le_bytes w32 q) ++ to_le_bytes w32 (from_le_bytes w32 r)))) x
    ∙ ap (λ t. n ∷ w ∷ 0 ∷ 0 ∷ (p ++ (t ++ to_le_bytes w32 (from_le_bytes w32 r)))) y
    ∙ ap (λ t. n ∷ w ∷ 0 ∷ 0 ∷ (p ++ (q ++ t))) z
    ∙ ap (λ t. n ∷ w ∷ t ∷ 0 ∷ (p ++ (q ++ r))) (sym spare)
    ∙ ap (λ t. n ∷ w ∷ s ∷ t ∷ (p ++ (q ++ r))) (sym last)
whole _ len small spare last = absurd (omega (arith, len))
