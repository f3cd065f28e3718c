-- Bytes whose parts are all accepted spell the image that is read from them.
use Rattle.std.proofs.Common.{◌≡◌, ℕ, zero, suc, ◌+◌, ◌*◌, ◌-◌, ◌<◌, ◌≤◌, List, [], ◌∷◌, ◌++◌, length, Bool, true, false, ◌&&◌, ◌||◌, not, ◌==◌, nat_lt, nat_le, cond, None, IsTrue, refl, sym, ◌∙◌, ap, subst, arith, ◌⊎◌, inl, inr, get_or, take, drop, slice_index_or, All, lit<, append_assoc, codes}
use Rattle.std.specs.List.{flat_map}
use Rattle.std.proofs.lemmas.Nat.{le_bytes_4}
use Rattle.std.proofs.lemmas.List.{take-append-drop}
use Rattle.std.proofs.lemmas.Grind.{get_or_default_zero}
use Rattle.std.proofs.lemmas.Bool.{cases_lt, and_parts}
use Rattle.bm_isa.specs.declared.instructions.Instr.{Instr}
use Rattle.bm_isa.specs.Encoding.{instruction_bytes}
use Rattle.bm_isa.specs.Decoding.{word_at}
use Rattle.bm_image.specs.declared.images.FnRec.{FnRec}
use Rattle.bm_image.specs.Images.{PlainImage, IsCode, IsFunction, function_at, no_function, end_of, bounds_of, fits}
use Rattle.bm_image.specs.Spelling.{word, record_bytes, header_bytes, bm_image, SpellsImage}
use Rattle.bm_image.specs.Parts.{Record, Data, End, Accepts, Judges, all, next, records, header_parts, functions_count, code_count, data_count, entry_in, record_offset, code_offset, data_offset, image_end, record_at, records_at, functions_in, record_before, rises, numbers_fit, entry_fits, is_between}
use Rattle.bm_image.specs.Reading.{AreInOrder, AreRead}

-- the bytes that are left behind a place
dropped_nil : (k : ℕ) → drop {A = ℕ} k [] ≡ []
dropped_nil zero = refl
dropped_nil (suc k) = refl

pub dropped : (m n : ℕ) (xs : List ℕ) → drop m (drop n xs) ≡ drop (n + m) xs
dropped m zero xs = let e : m ≡ zero + m = omega arith in ap (λ t. drop t xs) e
dropped m (suc n) [] = dropped_nil m ∙ sym (dropped_nil (suc n + m))
dropped m (suc n) (x ∷ xs) = let e : suc (n + m) ≡ suc n + m = omega arith in dropped m n xs ∙ ap (λ t. drop t (x ∷ xs)) e

cut_at : (n at end : ℕ) (xs : List ℕ) → at + n ≡ end → take n (drop at xs) ++ drop end xs ≡ drop at xs
cut_at n at end xs e = ap (λ t. take n (drop at xs) ++ t) (ap (λ t. drop t xs) (sym e) ∙ sym (dropped n at xs))
    ∙ take-append-drop n (drop at xs)

-- bytes are below 256
abbrev pub Bytes : List ℕ → Type 0
Bytes xs = (i : ℕ) → get_or xs i 0 < 256

take_bytes : (n : ℕ) (xs : List ℕ) → Bytes xs → Bytes (take n xs)
take_bytes zero xs small i = lit< tt
take_bytes (suc n) [] small i = lit< tt
take_bytes (suc n) (x ∷ xs) small zero = small zero
take_bytes (suc n) (x ∷ xs) small (suc i) = take_bytes n xs (λ j. small (suc j)) i

drop_bytes : (n : ℕ) (xs : List ℕ) → Bytes xs → Bytes (drop n xs)
drop_bytes zero xs small i = small i
drop_bytes (suc n) [] small i = lit< tt
drop_bytes (suc n) (x ∷ xs) small i = drop_bytes n xs (λ j. small (suc j)) i

all_bytes : (xs : List ℕ) → Bytes xs → All (λ byte. byte < 256) xs
all_bytes xs small = λ k d below. subst (λ t. t < 256) (sym (get_or_default_zero xs k d below)) (small k)

length_take : (n : ℕ) (xs : List ℕ) → n ≤ length xs → length (take n xs) ≡ n
length_take zero xs below = refl
length_take (suc n) [] below = absurd (omega (arith, below))
length_take (suc n) (x ∷ xs) below = ap suc (length_take n xs (omega (arith, below)))

pub length_drop : (n : ℕ) (xs : List ℕ) → n ≤ length xs → length (drop n xs) + n ≡ length xs
length_drop zero xs below = omega arith
length_drop (suc n) [] below = absurd (omega (arith, below))
length_drop (suc n) (x ∷ xs) below = let e = length_drop n xs (omega (arith, below)) in omega (arith, e)

-- a word, and the bytes behind it
word_cut : (bytes : List ℕ) (at end : ℕ) → Bytes bytes → at + 4 ≡ end → end ≤ length bytes
    → word (word_at bytes at) ++ drop end bytes ≡ drop at bytes
word_cut bytes at end small e below =
    let size = length_drop at bytes (omega (arith, e, below)) in
    let four = length_take 4 (drop at bytes) (omega (arith, size, e, below)) in
    ap (λ t. t ++ drop end bytes) (le_bytes_4 (take 4 (drop at bytes)) (word_at bytes at) four (take_bytes 4 (drop at bytes)
    (drop_bytes at bytes small)) refl)
    ∙ cut_at 4 at end bytes e

-- records, and the bytes behind them
records_cut : (bytes : List ℕ) (at n end : ℕ) → Bytes bytes → at + 20 * n ≡ end → end ≤ length bytes
    → flat_map record_bytes (records_at bytes at n) ++ drop end bytes ≡ drop at bytes
records_cut bytes at zero end small e below = let same : end ≡ at = omega (arith, e) in ap (λ t. drop t bytes) same
records_cut bytes at (suc n) end small e below =
    let rest = records_cut bytes (at + 20) n end small (omega (arith, e)) below in
    let f = record_at bytes at in
    let cut : (a b : ℕ) → a + 4 ≡ b → b ≤ at + 20 → word (word_at bytes a) ++ drop b bytes ≡ drop a bytes = λ a b h most. word_cut bytes a b small h (omega (arith, e, below, most)) in
    ap (λ t. word f.first ++ (word f.params ++ (word f.regs ++ (word f.weight ++ (word f.frame ++ t))))) rest
    ∙ ap (λ t. word f.first ++ (word f.params ++ (word f.regs ++ (word f.weight ++ t)))) (cut (at + 16) (at + 20) (omega arith)
    (omega arith))
    ∙ ap (λ t. word f.first ++ (word f.params ++ (word f.regs ++ t))) (cut (at + 12) (at + 16) (omega arith) (omega arith))
    ∙ ap (λ t. word f.first ++ (word f.params ++ t)) (cut (at + 8) (at + 12) (omega arith) (omega arith))
    ∙ ap (λ t. word f.first ++ t) (cut (at + 4) (at + 8) (omega arith) (omega arith))
    ∙ cut at (at + 4) (omega arith) (omega arith)

-- instructions, and the bytes behind them
code_cut : (bytes : List ℕ) (code : List Instr) (at end : ℕ) → at + 16 * length code ≡ end
    → ((i : ℕ) (d : Instr) → i < length code → instruction_bytes (slice_index_or code i d) ≡ take 16 (drop (at + 16 * i) bytes))
    → flat_map instruction_bytes code ++ drop end bytes ≡ drop at bytes
code_cut bytes [] at end e read = let same : end ≡ at = omega (arith, e) in ap (λ t. drop t bytes) same
code_cut bytes (x ∷ code) at end e read =
    let here : at + 16 * zero ≡ at = omega arith in
    let first = read zero x (omega arith) ∙ ap (λ t. take 16 (drop t bytes)) here in
    let behind : (i : ℕ) (d : Instr) → i < length code → instruction_bytes (slice_index_or code i d) ≡ take 16 (drop
    (at + 16 + 16 * i) bytes) =
    λ i d below. let shift : at + 16 * suc i ≡ at + 16 + 16 * i = omega arith in read (suc i) d (omega (arith, below))
    ∙ ap (λ t. take 16 (drop t bytes)) shift in
    let rest = code_cut bytes code (at + 16) end (omega (arith, e)) behind in
    append_assoc (instruction_bytes x) (flat_map instruction_bytes code) (drop end bytes)
    ∙ ap (λ t. instruction_bytes x ++ t) rest
    ∙ ap (λ t. t ++ drop (at + 16) bytes) first
    ∙ cut_at 16 at (at + 16) bytes refl

-- what the header says where it is accepted
between : (least most n : ℕ) → is_between least most n ≡ true → (least ≤ n) × (n ≤ most)
between least most n is = go (nat_le least n) (nat_le n most) refl refl is where
  go : (s t : Bool) → nat_le least n ≡ s → nat_le n most ≡ t → s && t ≡ true → (least ≤ n) × (n ≤ most)
  go true true a b c = (grind (arith, a), grind (arith, b))
  go true false a b c = absurd (cc c)
  go false t a b c = absurd (cc c)

pub record IsHeader (bytes : List ℕ) : Type 0 where
  pub whole : 32 ≤ length bytes
  pub functions : (1 ≤ functions_count bytes) × (functions_count bytes ≤ 4096)
  pub code : (1 ≤ code_count bytes) × (code_count bytes ≤ 4194304)
  pub data_size : data_count bytes ≤ 4194304
  pub entry : entry_in bytes < functions_count bytes
  pub spelled : (image : PlainImage) → length image.functions ≡ functions_count bytes → length image.code ≡ code_count bytes
      → length image.bytes ≡ data_count bytes
      → image.entry ≡ entry_in bytes → header_bytes image ++ drop 32 bytes ≡ bytes

headed : (bytes : List ℕ) (image : PlainImage) → take 8 bytes ≡ codes "FC3IMAGE" → word 1 ≡ word (word_at bytes 8)
    → word (length image.functions) ≡ word (functions_count bytes)
    → word (length image.code) ≡ word (code_count bytes) → word (length image.bytes) ≡ word (data_count bytes)
    → word image.entry ≡ word (entry_in bytes)
    → word 0 ≡ word (word_at bytes 28) → ((a b : ℕ) → a + 4 ≡ b → b ≤ 32 → word (word_at bytes a) ++ drop b bytes ≡ drop a bytes)
    → header_bytes image ++ drop 32 bytes ≡ bytes
headed bytes image magic v f i d e s cut =
    let last = ap (λ t. t ++ drop 32 bytes) s ∙ cut 28 32 refl (omega arith) in
    let sixth = ap (λ t. t ++ drop 28 bytes) e ∙ cut 24 28 refl (omega arith) in
    let fifth = ap (λ t. t ++ drop 24 bytes) d ∙ cut 20 24 refl (omega arith) in
    let fourth = ap (λ t. t ++ drop 20 bytes) i ∙ cut 16 20 refl (omega arith) in
    let third = ap (λ t. t ++ drop 16 bytes) f ∙ cut 12 16 refl (omega arith) in
    let second = ap (λ t. t ++ drop 12 bytes) v ∙ cut 8 12 refl (omega arith) in
    let m = codes "FC3IMAGE" in
    ap (λ t. m ++ (word 1 ++ (word (length image.functions) ++ (word (length image.code) ++ (word (length image.bytes) ++
    (word image.entry ++ t)))))) last
    ∙ ap (λ t. m ++ (word 1 ++ (word (length image.functions) ++ (word (length image.code) ++ (word (length image.bytes) ++ t))))) sixth
    ∙ ap (λ t. m ++ (word 1 ++ (word (length image.functions) ++ (word (length image.code) ++ t)))) fifth
    ∙ ap (λ t. m ++ (word 1 ++ (word (length image.functions) ++ t))) fourth
    ∙ ap (λ t. m ++ (word 1 ++ t)) third
    ∙ ap (λ t. m ++ t) second
    ∙ ap (λ t. t ++ drop 8 bytes) (sym magic)
    ∙ take-append-drop 8 bytes

pub is_header : (bytes : List ℕ) → Bytes bytes → Judges bytes (header_parts bytes) None → IsHeader bytes
is_header bytes small (next magic (next version (next functions (next code (next size (next entry (next spare all))))))) =
    let v = between 1 1 (word_at bytes 8) version.right in
    let f = between 1 4096 (functions_count bytes) functions.right in
    let i = between 1 4194304 (code_count bytes) code.right in
    let d = between 0 4194304 (data_count bytes) size.right in
    let e = between 0 (functions_count bytes - 1) (entry_in bytes) entry.right in
    let s = between 0 0 (word_at bytes 28) spare.right in
    let whole = spare.whole in
    let cut : (a b : ℕ) → a + 4 ≡ b → b ≤ 32 → word (word_at bytes a) ++ drop b bytes ≡ drop a bytes = λ a b h most. word_cut bytes a b small h (omega (arith, whole, most)) in
    record {
      whole = whole;
      functions = f;
      code = i;
      data_size = d.1;
      entry = omega (arith, e, f);
      spelled = λ image functions_same code_same size_same entry_same.
          let first : 1 ≡ word_at bytes 8 = omega (arith, v) in
          let last : 0 ≡ word_at bytes 28 = omega (arith, s) in
          let one : word 1 ≡ word (word_at bytes 8) = ap word first in
          let none : word 0 ≡ word (word_at bytes 28) = ap word last in
          headed bytes image magic.right one (ap word functions_same) (ap word code_same) (ap word size_same) (ap word entry_same) none cut;
    }

-- the records that are read
records_get : (bytes : List ℕ) (at n k : ℕ) (d : FnRec) → k < n → slice_index_or (records_at bytes at n) k d ≡ record_at bytes (at + 20 * k)
records_get bytes at zero k d below = absurd (omega (arith, below))
records_get bytes at (suc n) zero d below = let e : at ≡ at + 20 * zero = omega arith in ap (record_at bytes) e
records_get bytes at (suc n) (suc k) d below =
    let e : at + 20 + 20 * k ≡ at + 20 * suc k = omega arith in
    records_get bytes (at + 20) n k d (omega (arith, below)) ∙ ap (record_at bytes) e

pub records_length : (bytes : List ℕ) (at n : ℕ) → length (records_at bytes at n) ≡ n
records_length bytes at zero = refl
records_length bytes at (suc n) = ap suc (records_length bytes (at + 20) n)

pub function_is : (bytes : List ℕ) (k : ℕ) → k < functions_count bytes
    → function_at (functions_in bytes) k ≡ record_at bytes (record_offset k)
function_is bytes k below = records_get bytes 32 (functions_count bytes) k no_function below

-- each record is right
judged_record : (bytes : List ℕ) (k n j : ℕ) → Judges bytes (records k n) None → k ≤ j → j < k + n → Accepts bytes (Record j)
judged_record bytes k zero j judged low high = absurd (omega (arith, low, high))
judged_record bytes k (suc n) j (next here rest) low high = elim (cases_lt k j) [
  | inl less ↦ judged_record bytes (suc k) n j rest (omega (arith, less)) (omega (arith, high))
  | inr more ↦ let same : k ≡ j = omega (arith, low, more) in subst (λ t. Accepts bytes (Record t)) same here
]

pub is_most : (m n : ℕ) → nat_le m n ≡ true → m ≤ n
is_most m n e = grind (arith, e)

pub is_below : (m n : ℕ) → nat_lt m n ≡ true → m < n
is_below m n e = grind (arith, e)

pub is_equal : (m n : ℕ) → (m == n) ≡ true → m ≡ n
is_equal m n e = grind (arith, e)

pub record IsRecord (bytes : List ℕ) (k : ℕ) : Type 0 where
  pub rising : rises (record_before bytes k) (record_at bytes (record_offset k)) ≡ true
  pub inside : (record_at bytes (record_offset k)).first < code_count bytes
  pub numbers : numbers_fit (record_at bytes (record_offset k)) ≡ true
  pub entry : (not (k == entry_in bytes) || entry_fits (record_at bytes (record_offset k))) ≡ true

record_is : (bytes : List ℕ) → Judges bytes (records 0 (functions_count bytes)) None → (k : ℕ) → k < functions_count bytes
    → IsRecord bytes k
record_is bytes judged k below =
    let r = (judged_record bytes 0 (functions_count bytes) k judged (omega arith) (omega (arith, below))).right in
    let a = and_parts _ _ r in
    let b = and_parts _ _ a.1 in
    let c = and_parts _ _ b.1 in
    record { rising = a.0; inside = is_below _ _ b.0; numbers = c.0; entry = c.1 }

numbers_are : (f : FnRec) → numbers_fit f ≡ true → IsFunction f
numbers_are f h =
    let a = and_parts _ _ h in
    let b = and_parts _ _ a.1 in
    let c = and_parts _ _ b.1 in
    let d = and_parts _ _ c.1 in
    let e = and_parts _ _ d.1 in
    let g = and_parts _ _ e.1 in
    record {
      params = is_most _ _ a.0;
      given = is_most _ _ b.0;
      some_register = is_most _ _ c.0;
      regs = is_most _ _ d.0;
      weight = is_most _ _ e.0;
      frame = is_most _ _ g.0;
      aligned = is_equal _ _ g.1;
    }

-- the functions stand in order
pub in_order : (bytes : List ℕ) → IsHeader bytes → Judges bytes (records 0 (functions_count bytes)) None
    → AreInOrder (functions_in bytes) (code_count bytes)
in_order bytes header judged =
    let n = functions_count bytes in
    let size = records_length bytes 32 n in
    let some = header.functions.0 in
    record {
      starts =
          let first : 0 < n = omega (arith, some) in
          ap (λ f. f.first) (function_is bytes 0 first) ∙ is_equal _ _ (record_is bytes judged 0 first).rising;
      rises = λ k below.
          let here : k < n = omega (arith, below, size) in
          let behind : k + 1 < n = omega (arith, below, size) in
          rising bytes n k here behind judged;
      inside = λ k below.
          let here : k < n = omega (arith, below, size) in
          subst (λ f. f.first < code_count bytes) (sym (function_is bytes k here)) (record_is bytes judged k here).inside;
    } where
      rising : (bytes : List ℕ) (n k : ℕ) → k < functions_count bytes → k + 1 < functions_count bytes
          → Judges bytes (records 0 (functions_count bytes)) None
          → (function_at (functions_in bytes) k).first < (function_at (functions_in bytes) (k + 1)).first
      rising bytes n k here behind judged =
          let one : suc k ≡ k + 1 = omega arith in
          let r : rises (record_before bytes (suc k)) (record_at bytes (record_offset (suc k))) ≡ true = (record_is bytes judged (suc k)
          (omega (arith, behind))).rising in
          let less = is_below _ _ r in
          let a = ap (λ f. f.first) (function_is bytes k here) in
          let b = ap (λ f. f.first) (function_is bytes (suc k) (omega (arith, behind))) in
          subst (λ t. (function_at (functions_in bytes) k).first < (function_at (functions_in bytes) t).first) one (omega
          (arith, a, b, less))

within : (functions : List FnRec) (code : List Instr) (k : ℕ) {size : ℕ} → AreInOrder functions size → (i : ℕ) → length code ≡ size
    → k < length functions
    → i < end_of functions (length code) k → i < length code
within functions code k order i count below before = go (nat_lt (k + 1) (length functions)) refl before where
  go : (t : Bool) → nat_lt (k + 1) (length functions) ≡ t → i < cond t (function_at functions (k + 1)).first (length code) → i < length code
  go true e b = let more = is_below _ _ e in let h = order.inside (k + 1) more in omega (arith, h, b, count)
  go false e b = b

-- the code is one
code_is : (bytes : List ℕ) (code : List Instr) → IsHeader bytes → Judges bytes (records 0 (functions_count bytes)) None
    → AreRead bytes code → length code ≡ code_count bytes
    → IsCode (functions_in bytes) code
code_is bytes code header judged read count =
    let n = functions_count bytes in
    let size = records_length bytes 32 n in
    let order = in_order bytes header judged in
    record {
      starts = order.starts;
      rises = order.rises;
      inside = λ k below. subst (λ t. (function_at (functions_in bytes) k).first < t) (sym count) (order.inside k below);
      bounds = λ k below.
          let here : k < n = omega (arith, below, size) in
          subst IsFunction (sym (function_is bytes k here)) (numbers_are _ (record_is bytes judged k here).numbers);
      fit = λ k i d below behind before.
          let known = read i d (within (functions_in bytes) code k order i count below before) in
          subst (λ t. IsTrue (fits (bounds_of (functions_in bytes) t k) (slice_index_or code i d))) (sym count)
          (known.rightly.fit k (record {
            function = below;
            behind = behind;
            before = subst (λ t. i < end_of
                (functions_in bytes) t k) count before;
          }));
      last = λ k i d below behind end.
          let before : i < end_of (functions_in bytes) (length code) k = omega (arith, end) in
          let known = read i d (within (functions_in bytes) code k order i count below before) in
          known.rightly.last k (record {
            function = below;
            behind = behind;
            before = subst (λ t. i < end_of
                (functions_in bytes) t k) count before;
          })
          (subst (λ t. i + 1 ≡ end_of (functions_in bytes) t k) count end);
    }

none_or_two : (m : ℕ) → ((m == 0) || (m == 2)) ≡ true → (m ≡ 0) ⊎ (m ≡ 2)
none_or_two m h = by (m == 0) (m == 2) refl refl h where
  by : (a b : Bool) → (m == 0) ≡ a → (m == 2) ≡ b → (a || b) ≡ true → (m ≡ 0) ⊎ (m ≡ 2)
  by true b x y h = inl (is_equal m 0 x)
  by false true x y h = inr (is_equal m 2 y)
  by false false x y h = absurd (cc h)

entry_ok : (bytes : List ℕ) (image : PlainImage) → Judges bytes (records 0 (functions_count bytes)) None
    → image.functions ≡ functions_in bytes → image.entry ≡ entry_in bytes → IsHeader bytes
    → ((function_at image.functions image.entry).params ≡ 0) ⊎ ((function_at image.functions image.entry).params ≡ 2)
entry_ok bytes image judged functions entry header =
    let below = header.entry in
    let r = (record_is bytes judged (entry_in bytes) below).entry in
    let here = ap (λ t. function_at t image.entry) functions ∙ ap (function_at (functions_in bytes)) entry
    ∙ function_is bytes (entry_in bytes) below in
    subst (λ f. (f.params ≡ 0) ⊎ (f.params ≡ 2)) (sym here) (go (entry_in bytes == entry_in bytes) (same (entry_in bytes)) r) where
      same : (m : ℕ) → (m == m) ≡ true
      same m = grind arith

      go : (t : Bool) → t ≡ true → (not t || entry_fits (record_at bytes (record_offset (entry_in bytes)))) ≡ true
          → ((record_at bytes (record_offset (entry_in bytes))).params ≡ 0) ⊎ ((record_at bytes (record_offset (entry_in bytes))).params ≡ 2)
      go false e h = absurd (cc e)
      go true e h = none_or_two ((record_at bytes (record_offset (entry_in bytes))).params) h

-- the bytes spell the image
pub spelled : (bytes : List ℕ) (image : PlainImage) → Bytes bytes → Judges bytes (header_parts bytes) None
    → Judges bytes (records 0 (functions_count bytes)) None
    → Judges bytes (Data ∷ End ∷ []) None → image.functions ≡ functions_in bytes → AreRead bytes image.code
    → length image.code ≡ code_count bytes
    → image.bytes ≡ drop (data_offset bytes) bytes → image.entry ≡ entry_in bytes → SpellsImage bytes image
unfolding bm_image
spelled bytes image small head judged (next data_ok (next end_ok all)) functions read count rest entry =
    let header = is_header bytes small head in
    let n = functions_count bytes in
    let size = ap length functions ∙ records_length bytes 32 n in
    let over : data_offset bytes ≤ length bytes = let w = data_ok.whole in omega (arith, w) in
    let left = length_drop (data_offset bytes) bytes over in
    let whole : length bytes ≡ image_end bytes = end_ok.right in
    let data_size : length image.bytes ≡ data_count bytes = let l = ap length rest in omega (arith, l, left, whole) in
    let f = header.functions in
    let i = header.code in
    let d = header.data_size in
    let e = header.entry in
    let code_end : code_offset bytes 0 + 16 * length image.code ≡ data_offset bytes = omega (arith, count) in
    let start : record_offset n ≡ code_offset bytes 0 = omega arith in
    record {
      image_ok = record {
        some_function = omega (arith, size, f);
        functions = omega (arith, size, f);
        some_code = omega (arith, count, i);
        size = omega (arith, count, i);
        bytes = omega (arith, data_size, d);
        are_bytes = subst (λ t. All (λ byte. byte < 256) t) (sym rest) (all_bytes (drop (data_offset bytes) bytes) (drop_bytes
            (data_offset bytes) bytes small));
        entry = omega (arith, entry, size, e);
        entry_params = entry_ok bytes image judged functions entry header;
        code = subst (λ t. IsCode t image.code) (sym functions) (code_is bytes image.code header judged read count);
      };
      spelled =
          sym (header.spelled image size count data_size entry)
          ∙ ap (λ t. header_bytes image ++ t) (sym (records_cut bytes 32 n (record_offset n) small refl (omega (arith, over))))
          ∙ ap (λ t. header_bytes image ++ (flat_map record_bytes (functions_in bytes) ++ t)) (ap (λ t. drop t bytes) start
          ∙ sym (code_cut bytes image.code (code_offset bytes 0) (data_offset bytes) code_end (λ j x below. (read j x below).same
          ∙ ap (λ t. take 16 (drop t bytes)) (omega arith))))
          ∙ ap (λ t. header_bytes image ++ (flat_map record_bytes (functions_in bytes) ++ (flat_map instruction_bytes image.code ++ t)))
          (sym rest)
          ∙ ap (λ t. header_bytes image ++ (flat_map record_bytes t ++ (flat_map instruction_bytes image.code ++ image.bytes)))
          (sym functions);
    }
