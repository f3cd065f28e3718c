-- Bytes that spell an image are accepted part by part, and give that image alone.
use Rattle.std.proofs.Common.{◌≡◌, ℕ, zero, suc, ◌+◌, ◌*◌, ◌-◌, ◌^◌, ◌<◌, ◌≤◌, List, [], ◌∷◌, ◌++◌, length, Bool, true, false, ◌||◌, ◌&&◌, not, ◌==◌, nat_lt, cond, max, Some, None, refl, sym, ◌∙◌, ap, subst, arith, ◌⊎◌, inl, inr, nat_le, is_some, Option, slice_get, option_map, take, drop, slice_index_or, lit<, append_assoc, codes}
use Rattle.std.specs.List.{flat_map}
use Rattle.std.specs.Int.{from_le_bytes, w32}
use Rattle.std.proofs.lemmas.Nat.{from_le_bytes-to_le_bytes_4}
use Rattle.std.proofs.lemmas.List.{length-append}
use Rattle.std.proofs.Math.Nat.{mul-suc}
use Rattle.std.proofs.Math.Seq.{take-append_seam, drop-append_seam}
use Rattle.std.proofs.lemmas.Bool.{cases_lt, and_parts, and_from, lt-ltb, le-leb, leb-true}
use Rattle.std.proofs.lemmas.Option.{slice_get_within}
use Rattle.c_library.specs.declared.functions.LibFn.{LibFn}
use Rattle.c_library.specs.Library.{library, row_of, call_of}
use Rattle.bm_isa.specs.declared.instructions.Instr.{Instr}
use Rattle.bm_isa.specs.declared.instructions.Instr.TheVariants as instr
use Rattle.bm_isa.specs.Encoding.{instruction_bytes}
use Rattle.bm_isa.specs.Decoding.{word_at, IsInstr}
use Rattle.bm_isa.proofs.Decoded.{same_bytes}
use Rattle.bm_image.specs.declared.images.Bounds.{Bounds}
use Rattle.bm_image.specs.declared.images.FnRec.{FnRec}
use Rattle.bm_image.specs.declared.faults.ImageFault.{ImageFault}
use Rattle.bm_image.specs.Images.{PlainImage, IsImage, IsFunction, function_at, end_of, bounds_of, slots_of, call_takes, host_takes, fits}
use Rattle.bm_image.specs.Spelling.{word, record_bytes, header_bytes, bm_image, SpellsImage}
use Rattle.bm_image.specs.Parts.{Part, Record, Instruction, Accepts, Judges, all, next, refused, short, wrong, records, instructions, header_parts, image_parts, functions_count, code_count, data_count, entry_in, record_offset, code_offset, data_offset, record_at, records_at, functions_in, record_before, rises, numbers_fit, entry_fits, record_fits, is_between, IsIn, Stands}
use Rattle.bm_image.proofs.Judged.{judged_over, data_accepted}
use Rattle.bm_image.proofs.Spelled.{dropped, is_below, is_equal, function_is}

-- a word at the front of what is left
word_front : (bytes : List ℕ) (at end n : ℕ) (rest : List ℕ) → at + 4 ≡ end → n < 2 ^ 32 → drop at bytes ≡ word n ++ rest
    → (word_at bytes at ≡ n) × (drop end bytes ≡ rest)
word_front bytes at end n rest e small left = (
  ap (λ t. from_le_bytes w32 (take 4 t)) left ∙ from_le_bytes-to_le_bytes_4 n small,
  ap (λ t. drop t bytes) (sym e) ∙ sym (dropped 4 at bytes) ∙ ap (drop 4) left,
)

-- records at the front of what is left
abbrev IsSmall : FnRec → Type 0
IsSmall f = (f.first < 2 ^ 32) × (f.params < 2 ^ 32) × (f.regs < 2 ^ 32) × (f.weight < 2 ^ 32) × (f.frame < 2 ^ 32)

abbrev made : ℕ → ℕ → ℕ → ℕ → ℕ → FnRec
made a b c d e = record { first = a; params = b; regs = c; weight = d; frame = e }

record_front : (bytes : List ℕ) (at : ℕ) (f : FnRec) (rest : List ℕ) → IsSmall f → drop at bytes ≡ record_bytes f ++ rest
    → (record_at bytes at ≡ f) × (drop (at + 20) bytes ≡ rest)
record_front bytes at f rest small left =
    let a = word_front bytes at (at + 4) f.first _ refl small.0 left in
    let b = word_front bytes (at + 4) (at + 8) f.params _ (omega arith) small.1 a.1 in
    let c = word_front bytes (at + 8) (at + 12) f.regs _ (omega arith) small.2 b.1 in
    let d = word_front bytes (at + 12) (at + 16) f.weight _ (omega arith) small.3 c.1 in
    let e = word_front bytes (at + 16) (at + 20) f.frame rest (omega arith) small.4 d.1 in
    (same _ _ _ _ _ f a.0 b.0 c.0 d.0 e.0, e.1) where
      same : (a b c d e : ℕ) (f : FnRec) → a ≡ f.first → b ≡ f.params → c ≡ f.regs → d ≡ f.weight → e ≡ f.frame
          → made a b c d e ≡ f
      same a b c d e f p q r s t = rw (p, q, r, s, t) refl

records_front : (bytes : List ℕ) (at : ℕ) (fs : List FnRec) (rest : List ℕ) → ((k : ℕ) → k < length fs → IsSmall (function_at fs k))
    → drop at bytes ≡ flat_map record_bytes fs ++ rest
    → (records_at bytes at (length fs) ≡ fs) × (drop (at + 20 * length fs) bytes ≡ rest)
records_front bytes at [] rest small left = let e : at ≡ at + 20 * zero = omega arith in (refl, ap (λ t. drop t bytes) (sym e) ∙ left)
records_front bytes at (f ∷ fs) rest small left =
    let one = record_front bytes at f (flat_map record_bytes fs ++ rest) (small 0 (omega arith)) left in
    let more = records_front bytes (at + 20) fs rest (λ k below. small (suc k) (omega (arith, below))) one.1 in
    let e : at + 20 + 20 * length fs ≡ at + 20 * suc (length fs) = omega arith in
    (ap (λ f. f ∷ records_at bytes (at + 20) (length fs)) one.0 ∙ ap (λ fs. f ∷ fs) more.0, ap (λ t. drop t bytes) (sym e) ∙ more.1)

-- instructions at the front of what is left
sixteen_long : (i : Instr) → length (instruction_bytes i) ≡ 16
sixteen_long (instr.Const to number) = refl
sixteen_long (instr.Move to from) = refl
sixteen_long (instr.Slot to offset) = refl
sixteen_long (instr.Binary op to left right) = refl
sixteen_long (instr.Divide op width to left right) = refl
sixteen_long (instr.Extend true width to from) = refl
sixteen_long (instr.Extend false width to from) = refl
sixteen_long (instr.Select to test from) = refl
sixteen_long (instr.Load true width to at) = refl
sixteen_long (instr.Load false width to at) = refl
sixteen_long (instr.Store width from at) = refl
sixteen_long (instr.Copy to_at from_at count) = refl
sixteen_long (instr.Zero at count) = refl
sixteen_long (instr.Jump target) = refl
sixteen_long (instr.JumpIfZero test target) = refl
sixteen_long (instr.JumpIfNotZero test target) = refl
sixteen_long (instr.Argument from slot) = refl
sixteen_long (instr.Call to function) = refl
sixteen_long (instr.Return from) = refl
sixteen_long (instr.Host to call count) = refl

front_is : (n : ℕ) (xs ys : List ℕ) → length xs ≡ n → (take n (xs ++ ys) ≡ xs) × (drop n (xs ++ ys) ≡ ys)
front_is n xs ys e = subst (λ n. (take n (xs ++ ys) ≡ xs) × (drop n (xs ++ ys) ≡ ys)) e (take-append_seam xs ys, drop-append_seam xs ys)

code_front : (bytes : List ℕ) (at : ℕ) (code : List Instr) (rest : List ℕ) → drop at bytes ≡ flat_map instruction_bytes code ++ rest
    → ((i : ℕ) (d : Instr) → i < length code
    → instruction_bytes (slice_index_or code i d) ≡ take 16 (drop (at + 16 * i) bytes)) × (drop (at + 16 * length code) bytes ≡ rest)
code_front bytes at [] rest left = let e : at ≡ at + 16 * zero = omega arith in (
  λ i d below. absurd (omega (arith, below)),
  ap
      (λ t. drop t bytes) (sym e) ∙ left,
)
code_front bytes at (x ∷ code) rest left =
    let whole = left ∙ append_assoc (instruction_bytes x) (flat_map instruction_bytes code) rest in
    let front = front_is 16 (instruction_bytes x) (flat_map instruction_bytes code ++ rest) (sixteen_long x) in
    let behind : drop (at + 16) bytes ≡ flat_map instruction_bytes code ++ rest = sym (dropped 16 at bytes) ∙ ap (drop 16) whole
    ∙ front.1 in
    let more = code_front bytes (at + 16) code rest behind in
    let e : at + 16 + 16 * length code ≡ at + 16 * suc (length code) = omega arith in
    (reads bytes at x code (sym front.0 ∙ ap (take 16) (sym whole)) more.0, ap (λ t. drop t bytes) (sym e) ∙ more.1) where
      reads : (bytes : List ℕ) (at : ℕ) (x : Instr) (code : List Instr) → instruction_bytes x ≡ take 16 (drop at bytes)
          → ((i : ℕ) (d : Instr) → i < length code → instruction_bytes (slice_index_or code i d) ≡ take 16 (drop (at + 16 + 16 * i) bytes))
          → (i : ℕ) (d : Instr) → i < suc (length code)
          → instruction_bytes (slice_index_or (x ∷ code) i d) ≡ take 16 (drop (at + 16 * i) bytes)
      reads bytes at x code one more zero d below = let e : at ≡ at + 16 * zero = omega arith in one ∙ ap (λ t. take 16 (drop t bytes)) e
      reads bytes at x code one more (suc i) d below = let e : at + 16 + 16 * i ≡ at + 16 * suc i = omega arith in more i d (omega
          (arith, below)) ∙ ap (λ t. take 16 (drop t bytes)) e

-- what the bytes of an image say
pub record Says (bytes : List ℕ) (image : PlainImage) : Type 0 where
  pub magic : take 8 bytes ≡ codes "FC3IMAGE"
  pub version : word_at bytes 8 ≡ 1
  pub functions_size : functions_count bytes ≡ length image.functions
  pub code_size : code_count bytes ≡ length image.code
  pub data_size : data_count bytes ≡ length image.bytes
  pub entry : entry_in bytes ≡ image.entry
  pub spare : word_at bytes 28 ≡ 0
  pub functions : functions_in bytes ≡ image.functions
  pub code : (i : ℕ) (d : Instr) → i < length image.code
      → instruction_bytes (slice_index_or image.code i d) ≡ take 16 (drop (code_offset bytes i) bytes)
  pub data_rest : drop (data_offset bytes) bytes ≡ image.bytes

small_records : (image : PlainImage) → IsImage image → (k : ℕ) → k < length image.functions → IsSmall (function_at image.functions k)
small_records image is k below =
    let b = is.code.bounds k below in
    let i = is.code.inside k below in
    let s = is.size in
    let p = b.params in
    let r = b.regs in
    let w = b.weight in
    let f = b.frame in
    (omega (arith, i, s), omega (arith, p), omega (arith, r, w), omega (arith, w), omega (arith, f))

pub says : (bytes : List ℕ) (image : PlainImage) → SpellsImage bytes image → Says bytes image
unfolding bm_image
says bytes image s =
    let is = s.image_ok in
    let fs = is.functions in
    let cs = is.size in
    let ds = is.bytes in
    let es = is.entry in
    let a = word_front bytes 8 12 1 _ refl (lit< tt) (ap (drop 8) s.spelled) in
    let b = word_front bytes 12 16 (length image.functions) _ refl (omega (arith, fs)) a.1 in
    let c = word_front bytes 16 20 (length image.code) _ refl (omega (arith, cs)) b.1 in
    let d = word_front bytes 20 24 (length image.bytes) _ refl (omega (arith, ds)) c.1 in
    let e = word_front bytes 24 28 image.entry _ refl (omega (arith, es, fs)) d.1 in
    let f = word_front bytes 28 32 0 _ refl (lit< tt) e.1 in
    let g = records_front bytes 32 image.functions _ (small_records image is) f.1 in
    let h = code_front bytes (32 + 20 * length image.functions) image.code image.bytes g.1 in
    record {
      magic = ap (take 8) s.spelled;
      version = a.0;
      functions_size = b.0;
      code_size = c.0;
      data_size = d.0;
      entry = e.0;
      spare = f.0;
      functions = ap (records_at bytes 32) b.0 ∙ g.0;
      code = λ i x below. h.0 i x below ∙ ap (λ n. take 16 (drop (32 + 20 * n + 16 * i) bytes)) (sym b.0);
      data_rest = ap (λ n. drop (32 + 20 * n + 16 * code_count bytes) bytes) b.0
          ∙ ap (λ n. drop (32 + 20 * length image.functions + 16 * n) bytes) c.0 ∙ h.1;
    }

-- how many bytes an image has
length_flat : {X : Type 0} (f : X → List ℕ) (n : ℕ) → ((x : X) → length (f x) ≡ n) → (xs : List X) → length (flat_map f xs) ≡ n * length xs
length_flat f n each [] = omega arith
length_flat f n each (x ∷ xs) =
    let one = each x in
    let more = length_flat f n each xs in
    let sum = length-append (f x) (flat_map f xs) in
    let product = mul-suc n (length xs) in
    omega (arith, one, more, sum, product)

whole_length : (bytes : List ℕ) (image : PlainImage) → SpellsImage bytes image
    → length bytes ≡ 32 + (20 * length image.functions + (16 * length image.code + length image.bytes))
unfolding bm_image
whole_length bytes image s =
    let a = ap length s.spelled in
    let b = length-append (flat_map record_bytes image.functions) (flat_map instruction_bytes image.code ++ image.bytes) in
    let c = length-append (flat_map instruction_bytes image.code) image.bytes in
    let d = length_flat record_bytes 20 (λ f. refl) image.functions in
    let e = length_flat instruction_bytes 16 sixteen_long image.code in
    let rest = flat_map record_bytes image.functions ++ (flat_map instruction_bytes image.code ++ image.bytes) in
    let h : length (header_bytes image ++ rest) ≡ length (header_bytes image) + length rest = length-append (header_bytes image) rest in
    let g : length (header_bytes image) ≡ 32 = refl in
    omega (arith, a, h, g, b, c, d, e)

-- the header is accepted
between_is : (least most n m : ℕ) → n ≡ m → least ≤ m → m ≤ most → is_between least most n ≡ true
between_is least most n m e low high = and_from _ _ (le-leb least n (omega (arith, e, low))) (le-leb n most (omega (arith, e, high)))

accepted_header : (bytes : List ℕ) (image : PlainImage) → SpellsImage bytes image → Judges bytes (header_parts bytes) None
accepted_header bytes image s =
    let says = says bytes image s in
    let len = whole_length bytes image s in
    let is = s.image_ok in
    let sf = is.some_function in
    let fs = is.functions in
    let sc = is.some_code in
    let cs = is.size in
    let ds = is.bytes in
    let es = is.entry in
    let f = says.functions_size in
    let whole : (a : ℕ) → a ≤ 32 → a ≤ length bytes = λ a most. omega (arith, len, most) in
    next (record { whole = whole 8 (omega arith); right = says.magic })
    (next (record { whole = whole 12 (omega arith); right = between_is 1 1 _ 1 says.version (omega arith) (omega arith) })
    (next (record { whole = whole 16 (omega arith); right = between_is 1 4096 _ (length image.functions) says.functions_size sf fs })
    (next (record { whole = whole 20 (omega arith); right = between_is 1 4194304 _ (length image.code) says.code_size sc cs })
    (next (record { whole = whole 24 (omega arith); right = between_is 0 4194304 _ (length image.bytes) says.data_size (omega arith) ds })
    (next (record { whole = whole 28 (omega arith); right = between_is 0 _ _ image.entry says.entry (omega arith) (omega (arith, es, f)) })
    (next (record { whole = whole 32 (omega arith); right = between_is 0 0 _ 0 says.spare (omega arith) (omega arith) }) all))))))

-- a record is accepted
equal_is : (m n : ℕ) → m ≡ n → (m == n) ≡ true
equal_is m n e = grind (arith, e)

numbers_ok : (f : FnRec) → IsFunction f → numbers_fit f ≡ true
numbers_ok f is =
    and_from _ _ (le-leb _ _ is.params) (and_from _ _ (le-leb _ _ is.given) (and_from _ _ (le-leb _ _ is.some_register) (and_from _ _
    (le-leb _ _ is.regs)
    (and_from _ _ (le-leb _ _ is.weight) (and_from _ _ (le-leb _ _ is.frame) (equal_is _ _ is.aligned))))))

entry_ok : (f : FnRec) → (f.params ≡ 0) ⊎ (f.params ≡ 2) → entry_fits f ≡ true
entry_ok f (inl e) = ap (λ n. (n == 0) || (n == 2)) e
entry_ok f (inr e) = ap (λ n. (n == 0) || (n == 2)) e

record_here : (bytes : List ℕ) (image : PlainImage) → Says bytes image → (k : ℕ) → k < length image.functions
    → record_at bytes (record_offset k) ≡ function_at image.functions k
record_here bytes image says k below =
    let size = says.functions_size in
    sym (function_is bytes k (omega (arith, size, below))) ∙ ap (λ fs. function_at fs k) says.functions

rises_ok : (bytes : List ℕ) (image : PlainImage) → Says bytes image → IsImage image → (k : ℕ) → k < length image.functions
    → rises (record_before bytes k) (function_at image.functions k) ≡ true
rises_ok bytes image says is zero below = equal_is _ _ is.code.starts
rises_ok bytes image says is (suc k) below =
    let one : k + 1 ≡ suc k = omega arith in
    let less = is.code.rises k (omega (arith, below)) in
    let before = record_here bytes image says k (omega (arith, below)) in
    let step : (function_at image.functions k).first < (function_at image.functions (suc k)).first =
    subst (λ t. (function_at image.functions k).first < (function_at image.functions t).first) one less in
    lt-ltb _ _ (subst (λ f. f.first < (function_at image.functions (suc k)).first) (sym before) step)

or_entry : (bytes : List ℕ) (image : PlainImage) → Says bytes image → IsImage image → (k : ℕ)
    → (not (k == entry_in bytes) || entry_fits (function_at image.functions k)) ≡ true
or_entry bytes image says is k = go (k == entry_in bytes) refl where
  go : (t : Bool) → (k == entry_in bytes) ≡ t → (not t || entry_fits (function_at image.functions k)) ≡ true
  go false e = refl
  go true e =
      let same : image.entry ≡ k = sym (is_equal _ _ e ∙ says.entry) in
      subst (λ k. entry_fits (function_at image.functions k) ≡ true) same (entry_ok
      (function_at image.functions image.entry) is.entry_params)

record_ok : (bytes : List ℕ) (image : PlainImage) → Says bytes image → IsImage image → (k : ℕ) → k < length image.functions
    → record_fits (record_before bytes k) (code_count bytes) (k == entry_in bytes) (record_at bytes (record_offset k)) ≡ true
record_ok bytes image says is k below =
    let inside : (function_at image.functions k).first < code_count bytes = subst (λ n. (function_at image.functions k).first < n)
    (sym says.code_size) (is.code.inside k below) in
    subst (λ f. record_fits (record_before bytes k) (code_count bytes) (k == entry_in bytes) f ≡ true) (sym
    (record_here bytes image says k below))
    (and_from _ _ (rises_ok bytes image says is k below) (and_from _ _ (lt-ltb _ _ inside) (and_from _ _ (numbers_ok _
    (is.code.bounds k below)) (or_entry bytes image says is k))))

judged_all_records : (bytes : List ℕ) (k n : ℕ) → ((j : ℕ) → k ≤ j → j < k + n → Accepts bytes (Record j)) → Judges bytes (records k n) None
judged_all_records bytes k zero each = all
judged_all_records bytes k (suc n) each =
    next (each k (omega arith) (omega arith)) (judged_all_records bytes (suc k) n (λ j low high. each j (omega (arith, low)) (omega
    (arith, high))))

judged_all_code : (bytes : List ℕ) (i n : ℕ) → ((j : ℕ) → i ≤ j → j < i + n → Accepts bytes (Instruction j))
    → Judges bytes (instructions i n) None
judged_all_code bytes i zero each = all
judged_all_code bytes i (suc n) each =
    next (each i (omega arith) (omega arith)) (judged_all_code bytes (suc i) n (λ j low high. each j (omega (arith, low)) (omega
    (arith, high))))

-- each instruction is in the code of a function
in_some : (functions : List FnRec) (size i n : ℕ) → (function_at functions 0).first ≡ 0 → suc n ≤ length functions
    → i < end_of functions size n
    → (k : ℕ) × IsIn functions size k i
in_some functions size i zero starts inside before = (0, record { function = inside; behind = omega (arith, starts); before = before })
in_some functions size i (suc n) starts inside before = elim (cases_lt i (function_at functions (suc n)).first) [
  | inl less ↦
      let one : n + 1 ≡ suc n = omega arith in
      let below : n + 1 < length functions = omega (arith, inside) in
      let end : end_of functions size n ≡ (function_at functions (suc n)).first =
      ap (λ t. cond t (function_at functions (n + 1)).first size) (lt-ltb (n + 1) (length functions) below)
      ∙ ap (λ t. (function_at functions t).first) one in
      in_some functions size i n starts (omega (arith, inside)) (omega (arith, less, end))
  | inr more ↦ (suc n, record { function = inside; behind = more; before = before })
]

last_end : (functions : List FnRec) (size n : ℕ) → length functions ≡ suc n → end_of functions size n ≡ size
last_end functions size n e = go (nat_lt (n + 1) (length functions)) refl where
  go : (t : Bool) → nat_lt (n + 1) (length functions) ≡ t → cond t (function_at functions (n + 1)).first size ≡ size
  go true b = let less = is_below _ _ b in absurd (omega (arith, less, e))
  go false b = refl

in_code : (image : PlainImage) → IsImage image → (i : ℕ) → i < length image.code → (k : ℕ) × IsIn image.functions (length image.code) k i
in_code image is i below =
    let some = is.some_function in
    let n = length image.functions - 1 in
    let e : length image.functions ≡ suc n = omega (arith, some) in
    let end = last_end image.functions (length image.code) n e in
    in_some image.functions (length image.code) i n is.code.starts (omega (arith, e)) (omega (arith, below, end))

-- two numbers, and three, that are below a small one
two_small : (x y n limit : ℕ) → (nat_lt x n && nat_lt y n) ≡ true → n < limit → (x < limit) × (y < limit)
two_small x y n limit test small =
    let p = and_parts _ _ test in
    let a = is_below x n p.0 in
    let b = is_below y n p.1 in
    (omega (arith, a, small), omega (arith, b, small))

three_small : (x y z n limit : ℕ) → (nat_lt x n && (nat_lt y n && nat_lt z n)) ≡ true → n < limit → (x < limit) × (y < limit) × (z < limit)
three_small x y z n limit test small =
    let p = and_parts _ _ test in
    let a = is_below x n p.0 in
    let rest = two_small y z n limit p.1 small in
    (omega (arith, a, small), rest.0, rest.1)

-- the numbers of a library call are small
place_small : (place : ℕ) (checked : Bool) (o : Option LibFn) (call : LibFn × Bool) → slice_get library place ≡ o
    → option_map (λ f. (f, checked)) o ≡ Some call → place < 31
place_small place checked None call is found = absurd (cc found)
place_small place checked (Some f) call is found = slice_get_within library place f is

call_small : (call : ℕ) (o : Option (LibFn × Bool)) (count : ℕ) → call_of call ≡ o → call_takes o count ≡ true
    → (call < 2 ^ 32) × (count < 2 ^ 32)
call_small call None count is test = absurd (cc test)
call_small call (Some f) count is test = go (nat_le 64 call) refl is where
  most : count ≤ 64
  most =
      let formed = not f.1 || is_some (row_of f.0).checked in
      let few = nat_le count 64 in
      let all = cond (row_of f.0).variadic (nat_le (slots_of f.0 f.1) count) (count == slots_of f.0 f.1) in
      leb-true count 64 (and_parts few all (and_parts formed (few && all) test).1).0

  go : (t : Bool) → nat_le 64 call ≡ t → option_map (λ g. (g, t)) (slice_get library (cond t (call - 64) call)) ≡ Some f
      → (call < 2 ^ 32) × (count < 2 ^ 32)
  go true over found =
      let below = place_small (call - 64) true _ f refl found in
      (omega (arith, below), omega (arith, most))
  go false under found =
      let below = place_small call false _ f refl found in
      (omega (arith, below), omega (arith, most))

small_call : (call count : ℕ) → host_takes call count ≡ true → (call < 2 ^ 32) × (count < 2 ^ 32)
small_call call count test = call_small call (call_of call) count refl test

-- the numbers of an instruction that fits are small
is_instr : (b : Bounds) (x : Instr) → fits b x ≡ true → b.registers < 2 ^ 32 → b.frame < 2 ^ 32 → b.end < 2 ^ 32 → b.functions < 2 ^ 32
    → IsInstr x
is_instr b (instr.Const to number) fit r f e n =
    let p = and_parts _ _ fit in
    let a = is_below to b.registers p.0 in
    let c = is_below number (2 ^ 64) p.1 in
    (omega (arith, a, r), c)
is_instr b (instr.Move to from) fit r f e n = two_small to from b.registers (2 ^ 32) fit r
is_instr b (instr.Slot to offset) fit r f e n =
    let p = and_parts _ _ fit in
    let a = is_below to b.registers p.0 in
    let c = is_below offset (max b.frame 1) p.1 in
    (omega (arith, a, r), omega (arith, c, f))
is_instr b (instr.Binary op to left right) fit r f e n = three_small to left right b.registers (2 ^ 32) fit r
is_instr b (instr.Divide op width to left right) fit r f e n = three_small to left right b.registers (2 ^ 32) fit r
is_instr b (instr.Extend signed width to from) fit r f e n = two_small to from b.registers (2 ^ 32) fit r
is_instr b (instr.Select to test from) fit r f e n = three_small to test from b.registers (2 ^ 32) fit r
is_instr b (instr.Load signed width to at) fit r f e n = two_small to at b.registers (2 ^ 32) fit r
is_instr b (instr.Store width from at) fit r f e n = two_small from at b.registers (2 ^ 32) fit r
is_instr b (instr.Copy to_at from_at count) fit r f e n =
    let p = and_parts _ _ fit in
    let q = and_parts _ _ p.1 in
    let a = is_below to_at b.registers p.0 in
    let c = is_below from_at b.registers q.0 in
    (omega (arith, a, r), omega (arith, c, r), is_below count (2 ^ 32) q.1)
is_instr b (instr.Zero at count) fit r f e n =
    let p = and_parts _ _ fit in
    let a = is_below at b.registers p.0 in
    (omega (arith, a, r), is_below count (2 ^ 32) p.1)
is_instr b (instr.Jump target) fit r f e n = let a = is_below target b.end (and_parts _ _ fit).1 in omega (arith, a, e)
is_instr b (instr.JumpIfZero test target) fit r f e n =
    let p = and_parts _ _ fit in
    let a = is_below test b.registers p.0 in
    let c = is_below target b.end (and_parts _ _ p.1).1 in
    (omega (arith, a, r), omega (arith, c, e))
is_instr b (instr.JumpIfNotZero test target) fit r f e n =
    let p = and_parts _ _ fit in
    let a = is_below test b.registers p.0 in
    let c = is_below target b.end (and_parts _ _ p.1).1 in
    (omega (arith, a, r), omega (arith, c, e))
is_instr b (instr.Argument from slot) fit r f e n =
    let p = and_parts _ _ fit in
    let a = is_below from b.registers p.0 in
    let c = is_below slot 64 p.1 in
    (omega (arith, a, r), omega (arith, c))
is_instr b (instr.Call to function) fit r f e n =
    let p = and_parts _ _ fit in
    let a = is_below to b.registers p.0 in
    let c = is_below function b.functions p.1 in
    (omega (arith, a, r), omega (arith, c, n))
is_instr b (instr.Return from) fit r f e n = let a = is_below from b.registers fit in omega (arith, a, r)
is_instr b (instr.Host to call count) fit r f e n =
    let p = and_parts _ _ fit in
    let a = is_below to b.registers p.0 in
    let c = small_call call count p.1 in
    (omega (arith, a, r), c.0, c.1)

-- a function's code ends within the code
end_small : (image : PlainImage) → IsImage image → (k : ℕ) → k < length image.functions → end_of image.functions (length image.code) k ≤ length image.code
end_small image is k below = go (nat_lt (k + 1) (length image.functions)) refl where
  go : (t : Bool) → nat_lt (k + 1) (length image.functions) ≡ t → cond t (function_at image.functions (k + 1)).first (length image.code) ≤ length image.code
  go true test = let next_in = is_below _ _ test in let h = is.code.inside (k + 1) next_in in omega (arith, h)
  go false test = omega arith

is_instr_at : (image : PlainImage) → IsImage image → (i : ℕ) (d : Instr) → i < length image.code → IsInstr (slice_index_or image.code i d)
is_instr_at image is i d below =
    let here = in_code image is i below in
    let f = is.code.bounds here.0 here.1.function in
    let r = f.regs in
    let w = f.weight in
    let h = f.frame in
    let size = is.size in
    let many = is.functions in
    let end = end_small image is here.0 here.1.function in
    is_instr (bounds_of image.functions (length image.code) here.0) _
    (is.code.fit here.0 i d here.1.function here.1.behind here.1.before) (omega (arith, r, w)) (omega (arith, h)) (omega (arith, end, size))
    (omega (arith, many))

stands_at : (bytes : List ℕ) (image : PlainImage) → Says bytes image → IsImage image → (i : ℕ) (d : Instr) → i < length image.code
    → Stands (functions_in bytes) (code_count bytes) i (slice_index_or image.code i d)
stands_at bytes image says is i d below =
    subst (λ fs. Stands fs (code_count bytes) i (slice_index_or image.code i d)) (sym says.functions)
    (subst (λ n. Stands image.functions n i (slice_index_or image.code i d)) (sym says.code_size)
    (record {
      fit = λ k h. is.code.fit k i d h.function h.behind h.before;
      last = λ k h end. is.code.last k i d h.function h.behind end;
    }))

-- all parts of an image are accepted
pub accepted : (bytes : List ℕ) (image : PlainImage) → SpellsImage bytes image → Judges bytes (image_parts bytes) None
accepted bytes image s =
    let is = s.image_ok in
    let says = says bytes image s in
    let len = whole_length bytes image s in
    let f = says.functions_size in
    let c = says.code_size in
    let d = says.data_size in
    let default = instr.Jump 0 in
    judged_over (accepted_header bytes image s)
    (judged_over (judged_all_records bytes 0 (functions_count bytes) (λ k low high. record {
      whole = omega (arith, len, f, high);
      right = record_ok bytes image says is k (omega (arith, f, high));
    }))
    (judged_over (judged_all_code bytes 0 (code_count bytes) (λ i low high.
    let below : i < length image.code = omega (arith, c, high) in
    record {
      whole = omega (arith, len, f, c, high);
      right = (slice_index_or image.code i default, is_instr_at image is i default below, says.code i default below, stands_at bytes image says is i default below);
    }))
    (data_accepted bytes (omega (arith, len, f, c, d)))))

-- two images that the same bytes spell are one
same_lists : {X : Type 0} (xs ys : List X) → length xs ≡ length ys → ((i : ℕ) (d : X) → i < length xs
    → slice_index_or xs i d ≡ slice_index_or ys i d) → xs ≡ ys
same_lists [] [] e same = refl
same_lists [] (y ∷ ys) e same = absurd (omega (arith, e))
same_lists (x ∷ xs) [] e same = absurd (omega (arith, e))
same_lists (x ∷ xs) (y ∷ ys) e same =
    let rest = same_lists xs ys (omega (arith, e)) (λ i d below. same (suc i) d (omega (arith, below))) in
    ap (λ t. t ∷ xs) (same 0 x (omega arith)) ∙ ap (λ t. y ∷ t) rest

pub one_image : (bytes : List ℕ) (a b : PlainImage) → SpellsImage bytes a → SpellsImage bytes b → a ≡ b
one_image bytes a b s t =
    let p = says bytes a s in
    let q = says bytes b t in
    let code : a.code ≡ b.code = same_lists a.code b.code (sym p.code_size ∙ q.code_size) (λ i d below.
    let sizes = sym p.code_size ∙ q.code_size in
    let other : i < length b.code = omega (arith, sizes, below) in
    same_bytes _ _ (is_instr_at a s.image_ok i d below) (is_instr_at b t.image_ok i d other) (p.code i d below ∙ sym (q.code i d other))) in
    image_is a b (sym p.functions ∙ q.functions) code (sym p.data_rest ∙ q.data_rest) (sym p.entry ∙ q.entry) where
      image_is : (a b : PlainImage) → a.functions ≡ b.functions → a.code ≡ b.code → a.bytes ≡ b.bytes → a.entry ≡ b.entry → a ≡ b
      image_is a b f c d e = rw (f, c, d, e) refl

-- nothing is refused in the bytes of an image
never_both : {bytes : List ℕ} {parts : List Part} {fault : ImageFault} → Judges bytes parts None → Judges bytes parts (Some fault) → ⊥
never_both all j = elim j [ ]
never_both (next a j) (next b k) = never_both j k
never_both (next a j) (refused (short less)) = let w = a.whole in absurd (omega (arith, w, less))
never_both (next a j) (refused (wrong whole not_right)) = not_right a.right

pub none_spelled : (bytes : List ℕ) (fault : ImageFault) → Judges bytes (image_parts bytes) (Some fault) → (image : PlainImage)
    → SpellsImage bytes image → ⊥
none_spelled bytes fault judged image s = never_both (accepted bytes image s) judged
