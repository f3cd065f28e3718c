-- A scan of cells, from what was found of them one after the other.
use Rattle.std.proofs.Common.{◌≡◌, ◌≢◌, ℕ, zero, suc, ◌+◌, ◌-◌, ◌<◌, ◌≤◌, Bool, true, false, ◌||◌, eqb, List, [], ◌∷◌, length, map, get_or, take, drop, None, Some, Result, Ok, Err, refl, sym, ap, ◌∙◌, subst, arith, ⊎_elim}
use Rattle.std.specs.Prelude.{◌==◌, if◌then◌else◌, pos, negsuc, ◌+ℤ◌, ◌≤ℤ◌, ℤ, nat_abs}
use Rattle.std.proofs.lemmas.Bool.{ne_eqb, not-false, cases_eq}
use Rattle.std.proofs.lemmas.Int.{ints}
use Rattle.std.proofs.lemmas.List.{length-map, length-take-le}
use Rattle.fc_base.specs.declared.undefined.UndefKind.{UndefKind}
use Rattle.fc_base.specs.declared.undefined.UndefKind.TheVariants as kind
use Rattle.library_meaning.specs.Scan.{Found, and_then, at_limit, stopped_by, after_byte}
use Rattle.library_meaning.specs.Table.{nul}
use Rattle.object_meaning.specs.Cells.{byte_at}
use Rattle.object_meaning.specs.Objects.{Object, object_at, is_live, size_at, cells_behind}
use Rattle.object_meaning.specs.Provenance.{IsPointer}
use Rattle.object_meaning.specs.Touches.{test, tested, is_dead, is_null, cells_from}
use Rattle.object_meaning.specs.declared.values.Cell.{Cell}
use Rattle.object_meaning.specs.declared.values.Cell.TheVariants.{Byte, Uninit, Part}
use Rattle.object_meaning.specs.declared.values.Ptr.{Ptr}
use Rattle.object_meaning.specs.declared.values.PtrValue.{PtrValue}
use Rattle.object_meaning.specs.declared.values.PtrValue.TheVariants.{At}
use Rattle.src_lib.specs.Texts.{byte_in, ends_at, scanned, found, text_behind}
use Rattle.src_lib.specs.declared.texts.Text.{Text}

not_zero : (n k : ℕ) → k < n → eqb n 0 ≡ false
not_zero n k l = ne_eqb n 0 (λ e. absurd (omega arith))

module _ (wanted : ℕ) where
  -- a byte that doesn't end a scan
  pub record Passes (c : Cell) : Type 0 where
    pub byte : byte_at c ≡ Ok (byte_in c)
    pub goes_on : ends_at wanted (byte_in c) ≡ false

  pub passes_by : (c : Cell) (b : ℕ) → byte_at c ≡ Ok b → ends_at wanted b ≡ false → Passes c
  passes_by (Byte x) b e f = record { byte = refl; goes_on = (let same : x ≡ b = cc in ap (ends_at wanted) same ∙ f) }
  passes_by Uninit b e f = absurd (cc)
  passes_by (Part p k) b e f = absurd (cc)

  -- the first k cells are such bytes
  abbrev pub Clear : List Cell → ℕ → Type 0
  Clear cells k = (j : ℕ) → j < k → Passes (get_or cells j Uninit)

  pub clear_next : (cells : List Cell) (k : ℕ) → Clear cells k → Passes (get_or cells k Uninit) → Clear cells (k + 1)
  clear_next cells k h p j lt = ⊎_elim (λ (e : j ≡ k). subst (λ i. Passes (get_or cells i Uninit)) (sym e) p) (λ (ne : j ≢ k). h j (omega (arith, lt, ne)))
      (cases_eq j k)

  -- one step past such a byte
  step : (c : Cell) (cs : List Cell) (limit : ℕ) → 0 < limit → Passes c
      → scanned wanted limit (c ∷ cs) ≡ and_then (scanned wanted (limit - 1) cs) (λ f. Ok (after_byte (byte_in c) f))
  step c cs limit l p = rw (not_zero limit 0 l, p.byte, p.goes_on) refl

  pub scan_stops : (cells : List Cell) (limit k b : ℕ) → k < length cells → k < limit → Clear cells k → byte_at (get_or cells k Uninit) ≡ Ok b
      → ends_at wanted b ≡ true → scanned wanted limit cells ≡ Ok (record { before = map byte_in (take k cells); stop = Some b })
  scan_stops [] limit k b l m h e t = absurd (omega arith)
  scan_stops (c ∷ cs) limit zero b l m h e t = rw (not_zero limit 0 m, e, t) refl
  scan_stops (c ∷ cs) limit (suc k) b l m h e t =
      step c cs limit (omega arith) (h 0 (omega arith))
      ∙ ap (λ r. and_then r (λ f. Ok (after_byte (byte_in c) f)))
      (scan_stops cs (limit - 1) k b (omega arith) (omega arith) (λ j lt. h (suc j) (omega arith)) e t)

  pub scan_fails : (cells : List Cell) (limit k : ℕ) (why : UndefKind) → k < length cells → k < limit → Clear cells k
      → byte_at (get_or cells k Uninit) ≡ Err why → scanned wanted limit cells ≡ Err why
  scan_fails [] limit k why l m h e = absurd (omega arith)
  scan_fails (c ∷ cs) limit zero why l m h e = rw (not_zero limit 0 m, e) refl
  scan_fails (c ∷ cs) limit (suc k) why l m h e =
      step c cs limit (omega arith) (h 0 (omega arith))
      ∙ ap (λ r. and_then r (λ f. Ok (after_byte (byte_in c) f)))
      (scan_fails cs (limit - 1) k why (omega arith) (omega arith) (λ j lt. h (suc j) (omega arith)) e)

  pub scan_ends : (cells : List Cell) (limit : ℕ) → limit ≤ length cells → Clear cells limit
      → scanned wanted limit cells ≡ Ok (record { before = map byte_in (take limit cells); stop = None })
  scan_ends [] zero l h = refl
  scan_ends [] (suc n) l h = absurd (omega arith)
  scan_ends (c ∷ cs) zero l h = refl
  scan_ends (c ∷ cs) (suc n) l h =
      let e : suc n - 1 ≡ n = omega arith in
      step c cs (suc n) (omega arith) (h 0 (omega arith))
      ∙ ap (λ m. and_then (scanned wanted m cs) (λ f. Ok (after_byte (byte_in c) f))) e
      ∙ ap (λ r. and_then r (λ f. Ok (after_byte (byte_in c) f))) (scan_ends cs n (omega arith) (λ j lt. h (suc j) (omega arith)))

  pub scan_leaves : (cells : List Cell) (limit : ℕ) → length cells < limit → Clear cells (length cells)
      → scanned wanted limit cells ≡ Err kind.OutOfObject
  scan_leaves [] limit l h = rw (not_zero limit 0 l) refl
  scan_leaves (c ∷ cs) limit l h =
      step c cs limit (omega arith) (h 0 (omega arith))
      ∙ ap (λ r. and_then r (λ f. Ok (after_byte (byte_in c) f)))
      (scan_leaves cs (limit - 1) (omega arith) (λ j lt. h (suc j) (omega arith)))

  -- the cells before the end of a scan are its bytes
  then_plain : (b : ℕ) (cs : List Cell) (r : Result Found UndefKind) (f : Found)
      → ((g : Found) → r ≡ Ok g → map Byte g.before ≡ take (length g.before) cs) → and_then r (λ g. Ok (after_byte b g)) ≡ Ok f
      → map Byte f.before ≡ take (length f.before) (Byte b ∷ cs)
  then_plain b cs (Ok g) f h e = (let is : after_byte b g ≡ f = cc in
      subst (λ x. map Byte x.before ≡ take (length x.before) (Byte b ∷ cs)) is (ap (λ xs. Byte b ∷ xs) (h g refl)))
  then_plain b cs (Err k) f h e = absurd (cc)

  cell_plain : (c : Cell) (cs : List Cell) (r : Result Found UndefKind) (f : Found)
      → ((g : Found) → r ≡ Ok g → map Byte g.before ≡ take (length g.before) cs)
      → and_then (byte_at c) (λ b. if ends_at wanted b then Ok (stopped_by b) else and_then r (λ g. Ok (after_byte b g))) ≡ Ok f
      → map Byte f.before ≡ take (length f.before) (c ∷ cs)
  cell_plain (Byte b) cs r f h e = stop (ends_at wanted b) e
    where
      stop : (t : Bool) → (if t then Ok (stopped_by b) else and_then r (λ g. Ok (after_byte b g))) ≡ Ok f
          → map Byte f.before ≡ take (length f.before) (Byte b ∷ cs)
      stop true k = (let is : stopped_by b ≡ f = cc in subst (λ x. map Byte x.before ≡ take (length x.before) (Byte b ∷ cs)) is refl)
      stop false k = then_plain b cs r f h k
  cell_plain Uninit cs r f h e = absurd (cc)
  cell_plain (Part p k) cs r f h e = absurd (cc)

  limit_plain : (t : Bool) (cs : List Cell) (r : Result Found UndefKind) (f : Found)
      → (r ≡ Ok f → map Byte f.before ≡ take (length f.before) cs) → (if t then Ok at_limit else r) ≡ Ok f
      → map Byte f.before ≡ take (length f.before) cs
  limit_plain true cs r f h e = (let is : at_limit ≡ f = cc in subst (λ x. map Byte x.before ≡ take (length x.before) cs) is refl)
  limit_plain false cs r f h e = h e

  pub scan_plain : (cells : List Cell) (limit : ℕ) (f : Found) → scanned wanted limit cells ≡ Ok f
      → map Byte f.before ≡ take (length f.before) cells
  scan_plain [] limit f e = limit_plain (eqb limit 0) [] (Err kind.OutOfObject) f (λ k. absurd (cc)) e
  scan_plain (c ∷ cs) limit f e =
      limit_plain (eqb limit 0) (c ∷ cs)
      (and_then (byte_at c) (λ b. if ends_at wanted b then Ok (stopped_by b) else and_then (scanned wanted (limit - 1) cs)
      (λ g. Ok (after_byte b g)))) f (cell_plain c cs (scanned wanted (limit - 1) cs) f (scan_plain cs (limit - 1))) e

  -- ---- behind a pointer

  module _ (objs : List Object) (v : PtrValue) (limit : ℕ) where
    pub text_plain : (f : Found) → text_behind objs v (ends_at wanted) limit ≡ Ok f → map Byte f.before ≡ take (length f.before) (cells_from objs v 0)
    text_plain f e = limit_plain (limit == 0) (cells_from objs v 0) _ f (λ k. tests (is_dead objs v) (is_null v) k) e
      where
        tests : (d n : Bool)
            → tested (test d kind.DeadObject ∷ test n kind.NullPointer ∷ []) (scanned wanted limit (cells_from objs v 0)) ≡ Ok f
            → map Byte f.before ≡ take (length f.before) (cells_from objs v 0)
        tests true n k = absurd (cc)
        tests false true k = absurd (cc)
        tests false false k = scan_plain (cells_from objs v 0) limit f k

    pub text_none : limit ≡ 0 → text_behind objs v (ends_at wanted) limit ≡ Ok at_limit
    text_none e = rw e refl

    pub text_dead : limit ≢ 0 → is_dead objs v ≡ true → text_behind objs v (ends_at wanted) limit ≡ Err kind.DeadObject
    text_dead some dead = rw (ne_eqb limit 0 some, dead) refl

    pub text_null : limit ≢ 0 → is_dead objs v ≡ false → is_null v ≡ true → text_behind objs v (ends_at wanted) limit ≡ Err kind.NullPointer
    text_null some live null = rw (ne_eqb limit 0 some, live, null) refl

    pub text_live : limit ≢ 0 → is_dead objs v ≡ false → is_null v ≡ false
        → text_behind objs v (ends_at wanted) limit ≡ scanned wanted limit (cells_from objs v 0)
    text_live some live there = rw (ne_eqb limit 0 some, live, there) refl

-- the scans of the rows for a NUL are those for a NUL or a NUL
either_same : (t : Bool) → t || t ≡ t
either_same true = refl
either_same false = refl

pub nul_is : ends_at 0 ≡ nul
nul_is = λ i b. either_same (eqb b 0) i

pub length_found : (cells : List Cell) (t : Text) → t.len ≤ length cells → length (found cells t).before ≡ t.len
length_found cells t l = length-map (take t.len cells) byte_in ∙ length-take-le t.len cells l

up_from : (z : ℤ) → pos 0 ≤ℤ z → z +ℤ pos 0 ≡ pos (nat_abs z)
up_from (pos k) l = omega (arith, ints)
up_from (negsuc k) l = absurd (omega (arith, ints, l))

-- where the cells behind a pointer begin
pub record Begins (objs : List Object) (v : PtrValue) (p : Ptr) : Type 0 where
  pub live : is_live objs p.object ≡ true
  pub within : nat_abs p.offset ≤ size_at objs p.object
  pub small : size_at objs p.object ≤ 4294967296
  pub cells : cells_from objs v 0 ≡ drop (nat_abs p.offset) (object_at objs p.object).cells
  pub there : is_null v ≡ false

pub begins_at : (objs : List Object) (v : PtrValue) (p : Ptr) → IsPointer objs v → is_dead objs v ≡ false → v ≡ At p → Begins objs v p
begins_at objs v p h d e =
    let here : IsPointer objs (At p) = subst (IsPointer objs) e h in
    let live : is_live objs p.object ≡ true = not-false _ (subst (λ x. is_dead objs x ≡ false) e d) in
    let valid = here.valid live in
    let start = up_from p.offset valid.starts.0 in
    let none : p.offset +ℤ pos 0 ≡ p.offset = omega (arith, ints) in
    let same : p.offset ≡ pos (nat_abs p.offset) = sym none ∙ start in
    let starts = valid.starts in
    let small = valid.small in
    record {
      live = live;
      within = omega (arith, ints, starts, same);
      small = omega (arith, small);
      cells = ap (λ x. cells_from objs x 0) e ∙ ap (cells_behind (object_at objs p.object).cells) start;
      there = ap is_null e;
    }
