-- The function whose code an instruction is in.
use Rattle.std.proofs.Common.{◌≡◌, ℕ, zero, suc, ◌+◌, ◌-◌, ◌<◌, ◌≤◌, List, [], ◌∷◌, ◌++◌, length, Bool, true, false, ◌&&◌, ◌||◌, not, ◌==◌, cond, IsTrue, refl, sym, ◌∙◌, ap, subst, arith, inl, inr, slice_index_or}
use Rattle.std.proofs.lemmas.Bool.{cases_lt, lt-ltb}
use Rattle.std.proofs.lemmas.List.{get_or_append_left, get_or_push, length-append}
use Rattle.bm_isa.specs.declared.instructions.Instr.{Instr}
use Rattle.bm_image.specs.declared.images.Bounds.{Bounds}
use Rattle.bm_image.specs.declared.images.FnRec.{FnRec}
use Rattle.bm_image.specs.Images.{function_at, end_of, bounds_of, fits, ends_function}
use Rattle.bm_image.specs.Parts.{IsIn, Stands}
use Rattle.bm_image.specs.Reading.{stands, AreInOrder, IsNear, IsRead, AreRead}

-- a later function begins no earlier than an earlier one ends
ends_before : (functions : List FnRec) (size : ℕ) → AreInOrder functions size → (k n : ℕ) → k + suc n < length functions
    → end_of functions size k ≤ (function_at functions (k + suc n)).first
ends_before functions size order k zero below =
    let e : k + 1 ≡ k + suc zero = omega arith in
    let inside : k + 1 < length functions = omega (arith, below) in
    let same : end_of functions size k ≡ (function_at functions (k + 1)).first =
    ap (λ t. cond t (function_at functions (k + 1)).first size) (lt-ltb (k + 1) (length functions) inside) in
    subst (λ t. end_of functions size k ≤ (function_at functions t).first) e (omega (arith, same))
ends_before functions size order k (suc n) below =
    let before = ends_before functions size order k n (omega (arith, below)) in
    let e : k + suc n + 1 ≡ k + suc (suc n) = omega arith in
    let step = order.rises (k + suc n) (omega (arith, below)) in
    subst (λ t. end_of functions size k ≤ (function_at functions t).first) e (omega (arith, before, step))

earlier : (functions : List FnRec) (size : ℕ) → AreInOrder functions size → (i j k : ℕ) → IsIn functions size j i
    → IsIn functions size k i → j < k → ⊥
earlier functions size order i j k a b less =
    let e : j + suc (k - suc j) ≡ k = omega (arith, less) in
    let below = b.function in
    let over : end_of functions size j ≤ (function_at functions k).first =
    subst (λ t. end_of functions size j ≤ (function_at functions t).first) e (ends_before functions size order j (k - suc j) (omega
    (arith, e, below))) in
    let p = a.before in
    let q = b.behind in
    omega (arith, over, p, q)

-- an instruction is in the code of one function
pub only_one : (functions : List FnRec) (size : ℕ) → AreInOrder functions size → (i j k : ℕ) → IsIn functions size j i
    → IsIn functions size k i → j ≡ k
only_one functions size order i j k a b = elim (cases_lt j k) [
  | inl less ↦ absurd (earlier functions size order i j k a b less)
  | inr more ↦ elim (cases_lt k j) [
    | inl less ↦ absurd (earlier functions size order i k j b a less)
    | inr other ↦ omega
        (arith, more, other)
  ]
]

equal_test : (m n : ℕ) → m ≡ n → (m == n) ≡ true
equal_test m n e = grind (arith, e)

test_equal : (m n : ℕ) → (m == n) ≡ true → m ≡ n
test_equal m n e = grind (arith, e)

-- so a test at its bounds decides whether the instruction stands rightly
both_hold : (s t u : Bool) → s && (not t || u) ≡ true → (s ≡ true) × (t ≡ true → u ≡ true)
both_hold true true true e = (refl, λ f. refl)
both_hold true false u e = (refl, λ f. absurd (cc f))
both_hold true true false e = absurd (cc e)
both_hold false t u e = absurd (cc e)

one_fails : (s t u : Bool) → s && (not t || u) ≡ false → s ≡ true → (t ≡ true) × (u ≡ false)
one_fails true true false e f = (refl, refl)
one_fails true true true e f = absurd (cc e)
one_fails true false u e f = absurd (cc e)
one_fails false t u e f = absurd (cc f)

pub rightly : (functions : List FnRec) (size : ℕ) → AreInOrder functions size → (i k : ℕ) (b : Bounds) (x : Instr)
    → IsIn functions size k i → b ≡ bounds_of functions size k
    → stands b i x ≡ true → Stands functions size i x
rightly functions size order i k b x here same test =
    let both = both_hold (fits b x) (i + 1 == b.end) (ends_function x) test in
    let at : (j : ℕ) → IsIn functions size j i → b ≡ bounds_of functions size j = λ j h. same
    ∙ ap (bounds_of functions size) (only_one functions size order i k j here h) in
    record {
      fit = λ j h. subst (λ b. IsTrue (fits b x)) (at j h) both.0;
      last = λ j h end. let e : i + 1 ≡ b.end = end ∙ ap (λ b. b.end) (sym (at j h)) in both.1 (equal_test (i + 1) b.end e);
    }

pub wrongly : (functions : List FnRec) (size i k : ℕ) (b : Bounds) (x : Instr) → IsIn functions size k i → b ≡ bounds_of functions size k
    → stands b i x ≡ false → Stands functions size i x → ⊥
wrongly functions size i k b x here same test s =
    let fit : fits b x ≡ true = subst (λ b. IsTrue (fits b x)) (sym same) (s.fit k here) in
    let fails = one_fails (fits b x) (i + 1 == b.end) (ends_function x) test fit in
    let end : i + 1 ≡ b.end = test_equal (i + 1) b.end fails.0 in
    let ends : ends_function x ≡ true = s.last k here (end ∙ ap (λ b. b.end) same) in
    absurd (cc (ends, fails.1))

-- the code that is read, with one more instruction
pub read_more : (bytes : List ℕ) (code after : List Instr) (i : ℕ) (x : Instr) → length code ≡ i → AreRead bytes code
    → IsRead bytes i x → after ≡ code ++ x ∷ [] → AreRead bytes after
read_more bytes code after i x len read one e = λ j d below. elim (cases_lt j i) [
  | inl less ↦ subst (IsRead bytes j) (sym (get_or_append_left code (x ∷ []) d j (omega (arith, less, len)))
      ∙ ap (λ l. slice_index_or l j d) (sym e)) (read j d (omega (arith, less, len)))
  | inr more ↦
      let size = ap length e ∙ length-append code (x ∷ []) in
      let at : i ≡ j = omega (arith, more, below, size, len) in
      subst (λ t. IsRead bytes t (slice_index_or after t d)) at (subst (IsRead bytes i) (sym (get_or_push code x d i len)
      ∙ ap (λ l. slice_index_or l i d) (sym e)) one)
]

pub next_near : (functions : List FnRec) (size k i : ℕ) → IsIn functions size k i → IsNear functions size k (i + 1)
next_near functions size k i here =
    let p = here.behind in
    let q = here.before in
    record { function = here.function; behind = omega (arith, p); before = omega (arith, q) }
