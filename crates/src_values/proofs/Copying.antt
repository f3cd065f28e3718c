-- What a copy has done.
use Rattle.std.proofs.Common.{◌≡◌, ℕ, ◌+◌, ◌<◌, Bool, true, false, not, ◌&&◌, ◌||◌, List, [], ◌∷◌, take, drop, set, Result, Ok, Err, refl, sym, ap, ◌∙◌, subst, arith}
use Rattle.std.specs.Prelude.{IfOk, if◌then◌else◌, ℤ, pos, negsuc, ◌+ℤ◌, ◌≤ℤ◌, nat_abs}
use Rattle.std.proofs.lemmas.Bool.{lt-ltb, le-leb, not-false}
use Rattle.std.proofs.lemmas.Int.{ints}
use Rattle.std.proofs.lemmas.List.{set-get_or}
use Rattle.fc_base.specs.declared.undefined.UndefKind.{UndefKind}
use Rattle.fc_base.specs.declared.undefined.UndefKind.TheVariants as kind
use Rattle.library_meaning.specs.Scan.{and_then}
use Rattle.object_meaning.specs.Memory.{copy, IsMemory, SameObjects}
use Rattle.object_meaning.specs.Objects.{Object, ended, object_at, is_live, size_at, with_cells, put_cells, put_behind}
use Rattle.object_meaning.specs.Provenance.{IsPointer}
use Rattle.object_meaning.specs.Touches.{test, tested, lies_in, is_null, is_dead, is_out, is_fixed, reads, writes, touch_tests, cells_from, cells_at, put_at}
use Rattle.object_meaning.specs.declared.values.PtrValue.{PtrValue}
use Rattle.object_meaning.specs.declared.values.PtrValue.TheVariants.{Null, At}
use Rattle.object_meaning.proofs.Kept.{copy_keeps}
use Rattle.src_values.specs.Spots.{spot_for, spots_between, spots_for}
use Rattle.src_values.specs.declared.copies.Spot.{Spot}
use Rattle.src_values.proofs.Putting.{put_none}
use Rattle.src_values.proofs.Spots.{spot_tells}

-- the tests of an operation on two places, in their order
abbrev in_order : {X : Type 0} → Bool → Bool → Bool → Bool → Result X UndefKind → Result X UndefKind
in_order dead null out fixed r =
    if dead then Err kind.DeadObject else (if null then Err kind.NullPointer
    else (if out then Err kind.OutOfObject else (if fixed then Err kind.ReadOnly else r)))

two_tests : {X : Type 0} (dt df nt nf ot of fixed : Bool) (r : Result X UndefKind)
    → tested (test (dt || (df || false)) kind.DeadObject ∷ test ((nt && true) || ((nf && true) || false)) kind.NullPointer ∷ test
    (ot || (of || false)) kind.OutOfObject ∷ test ((fixed && true) || false) kind.ReadOnly ∷ []) r
    ≡ in_order (dt || df) (nt || nf) (ot || of) fixed r
two_tests true df nt nf ot of fixed r = refl
two_tests false true nt nf ot of fixed r = refl
two_tests false false true nf ot of fixed r = refl
two_tests false false false true ot of fixed r = refl
two_tests false false false false true of fixed r = refl
two_tests false false false false false true fixed r = refl
two_tests false false false false false false true r = refl
two_tests false false false false false false false r = refl

stopped_first : {X Y : Type 0} (b : Bool) (k : UndefKind) (r : Result X UndefKind) (f : X → Result Y UndefKind)
    → and_then (if b then Err k else r) f ≡ (if b then Err k else and_then r f)
stopped_first true k r f = refl
stopped_first false k r f = refl

places_in_order : {X : Type 0} (a b w : Bool) (spots : Spot × Spot) (r : Result X UndefKind)
    → and_then (if a && b then (if w then Ok spots else Err kind.ReadOnly) else Err kind.OutOfObject) (λ s. r)
    ≡ (if not a || not b then Err kind.OutOfObject else (if not w then Err kind.ReadOnly else r))
places_in_order false b w spots r = refl
places_in_order true false w spots r = refl
places_in_order true true false spots r = refl
places_in_order true true true spots r = refl

between_is : {X : Type 0} (objs : List Object) (to from : PtrValue) (n : ℕ) (r : Result X UndefKind)
    → and_then (spots_between objs n to from) (λ s. r)
    ≡ (if is_null to || is_null from then Err kind.NullPointer
    else (if is_out objs 0 n to || is_out objs 0 n from then Err kind.OutOfObject
    else (if is_fixed objs to then Err kind.ReadOnly else r)))
between_is objs (Null claim) from n r = refl
between_is objs (At p) (Null claim) n r = refl
between_is objs (At p) (At q) n r =
    let here : p.offset +ℤ pos 0 ≡ p.offset = omega (arith, ints) in
    let there : q.offset +ℤ pos 0 ≡ q.offset = omega (arith, ints) in
    rw (here, there) (places_in_order (lies_in (size_at objs p.object) p.offset n) (lies_in (size_at objs q.object) q.offset n)
    (object_at objs p.object).writable (
      record { object = p.object; start = nat_abs p.offset },
      record {
        object = q.object;
        start = nat_abs q.offset;
      },
    ) r)

copied_by : {X : Type 0} (objs : List Object) (to from : PtrValue) (n : ℕ) (r : Result X UndefKind) → 0 < n
    → tested (touch_tests objs (writes to n ∷ reads from n ∷ [])) r ≡ and_then (spots_for objs to from n) (λ s. r)
copied_by objs to from n r l =
    rw (lt-ltb 0 n l) (two_tests (is_dead objs to) (is_dead objs from) (is_null to) (is_null from) (is_out objs 0 n to)
    (is_out objs 0 n from) (is_fixed objs to) r)
    ∙ ap (λ x. if is_dead objs to || is_dead objs from then Err kind.DeadObject else x) (sym (between_is objs to from n r))
    ∙ sym (stopped_first (is_dead objs to || is_dead objs from) kind.DeadObject (spots_between objs n to from) (λ s. r))

-- each of the two spots by itself
pub record Apart (objs : List Object) (to from : PtrValue) (n : ℕ) (s t : Spot) : Type 0 where
  pub to_is : spot_for objs true to n ≡ Ok s
  pub from_is : spot_for objs false from n ≡ Ok t

dead_none : {X : Type 0} (b : Bool) (k : UndefKind) (x : X) → (if b then Err kind.DeadObject else Err k) ≡ Ok x → ⊥
dead_none true k x e = cc
dead_none false k x e = cc

pub spots_apart : (objs : List Object) (to from : PtrValue) (n : ℕ) (s t : Spot) → spots_for objs to from n ≡ Ok (s, t)
    → Apart objs to from n s t
spots_apart objs (Null claim) from n s t e = absurd (dead_none (is_dead objs from) kind.NullPointer (s, t) e)
spots_apart objs (At p) (Null claim) n s t e = absurd (dead_none (not (is_live objs p.object) || false) kind.NullPointer (s, t) e)
spots_apart objs (At p) (At q) n s t e = (let both = go (is_live objs p.object) (is_live objs q.object)
    (lies_in (size_at objs p.object) p.offset n) (lies_in (size_at objs q.object) q.offset n) (object_at objs p.object).writable
    (object_at objs q.object).writable e in record { to_is = both.0; from_is = both.1 })
  where
    both : Spot × Spot
    both = (record { object = p.object; start = nat_abs p.offset }, record { object = q.object; start = nat_abs q.offset })

    chosen : Bool → Bool → Bool → Result (Spot × Spot) UndefKind
    chosen dead within writable = if dead then Err kind.DeadObject
        else (if within then (if writable then Ok both else Err kind.ReadOnly) else Err kind.OutOfObject)

    go : (a b i j w v : Bool)
        → chosen (not a || not b) (i && j) w ≡ Ok (s, t)
        → ((if a then (if i then (if true && not w then Err kind.ReadOnly
        else Ok (record { object = p.object; start = nat_abs p.offset })) else Err kind.OutOfObject) else Err kind.DeadObject) ≡ Ok s)
        × ((if b then (if j then (if false && not v then Err kind.ReadOnly
        else Ok (record { object = q.object; start = nat_abs q.offset })) else Err kind.OutOfObject) else Err kind.DeadObject) ≡ Ok t)
    go false b i j w v e = absurd (cc)
    go true false i j w v e = absurd (cc)
    go true true false j w v e = absurd (cc)
    go true true true false w v e = absurd (cc)
    go true true true true false v e = absurd (cc)
    go true true true true true v e = (let same : both ≡ (s, t) = cc in (ap (λ x. Ok x.0) same, ap (λ x. Ok x.1) same))

copy_is : (objs : List Object) (to from : PtrValue) (n : ℕ) (s t : Spot) → 0 < n → spots_for objs to from n ≡ Ok (s, t)
    → copy objs to from n ≡ Ok (put_cells objs s.object (pos s.start) (take n (drop t.start (object_at objs t.object).cells)))
copy_is objs to from n s t l e =
    let apart = spots_apart objs to from n s t e in
    let target = spot_tells objs true to n s apart.to_is in
    let source = spot_tells objs false from n t apart.from_is in
    copied_by objs to from n (Ok (put_at objs to 0 (cells_at objs (reads from n)))) l
    ∙ ap (λ x. and_then x (λ both. Ok (put_at objs to 0 (cells_at objs (reads from n))))) e
    ∙ ap Ok (target.put (take n (cells_from objs from 0)) ∙ ap (λ cs. put_cells objs s.object (pos s.start) (take n cs)) source.cells)

pub copy_stops : (objs : List Object) (to from : PtrValue) (n : ℕ) (k : UndefKind) → 0 < n → spots_for objs to from n ≡ Err k
    → copy objs to from n ≡ Err k
copy_stops objs to from n k l e =
    copied_by objs to from n (Ok (put_at objs to 0 (cells_at objs (reads from n)))) l
    ∙ ap (λ x. and_then x (λ both. Ok (put_at objs to 0 (cells_at objs (reads from n))))) e

pub record Copied (objs : List Object) (to from : PtrValue) (n : ℕ) (new : List Object) : Type 0 where
  pub is : copy objs to from n ≡ Ok new
  pub is_memory : IsMemory new

pub copy_done : (items objs : List Object) (to from : PtrValue) (n : ℕ) (s t : Spot) (new : List Object) → IsMemory items → items ≡ objs
    → 0 < n → spots_for objs to from n ≡ Ok (s, t)
    → new ≡ put_cells items s.object (pos s.start) (take n (drop t.start (object_at items t.object).cells)) → Copied objs to from n new
copy_done items objs to from n s t new w same l e done =
    let is : copy objs to from n ≡ Ok new = copy_is objs to from n s t l e
    ∙ ap Ok (sym (done ∙ ap (λ xs. put_cells xs s.object (pos s.start) (take n (drop t.start (object_at xs t.object).cells))) same)) in
    let kept = subst (λ r. IfOk r (λ after. IsMemory after × SameObjects objs after)) is
    (copy_keeps objs (subst IsMemory same w) to from n) in
    record { is = is; is_memory = kept.0 }

-- ---- a copy of nothing

nothing_put : (objs : List Object) (v : PtrValue) → put_at objs v 0 [] ≡ objs
nothing_put objs (Null claim) = refl
nothing_put objs (At p) = go (p.offset +ℤ pos 0)
  where
    go : (z : ℤ) → set objs p.object (with_cells (object_at objs p.object) (put_behind z [] (object_at objs p.object).cells)) ≡ objs
    go (pos k) = ap (λ cs. set objs p.object (with_cells (object_at objs p.object) cs)) (put_none k (object_at objs p.object).cells)
        ∙ set-get_or objs p.object ended
    go (negsuc k) = set-get_or objs p.object ended

none_out : (objs : List Object) (v : PtrValue) → IsPointer objs v → is_dead objs v ≡ false → is_out objs 0 0 v ≡ false
none_out objs (Null claim) h d = refl
none_out objs (At p) h d =
    let valid = h.valid (not-false _ d) in
    let starts = valid.starts in
    go (p.offset +ℤ pos 0) (omega (arith, ints, starts)) (omega (arith, ints, starts))
  where
    go : (z : ℤ) → pos 0 ≤ℤ z → z ≤ℤ pos (size_at objs p.object) → not (lies_in (size_at objs p.object) z 0) ≡ false
    go (pos k) a b = rw (le-leb (k + 0) (size_at objs p.object) (omega (arith, ints, b))) refl
    go (negsuc k) a b = absurd (omega (arith, ints, a))

none_tests : {X : Type 0} (nt nf fixed : Bool) (r : Result X UndefKind)
    → tested (test ((nt && false) || ((nf && false) || false)) kind.NullPointer ∷ test
    (false || (false || false)) kind.OutOfObject ∷ test ((fixed && false) || false) kind.ReadOnly ∷ []) r ≡ r
none_tests true true true r = refl
none_tests true true false r = refl
none_tests true false true r = refl
none_tests true false false r = refl
none_tests false true true r = refl
none_tests false true false r = refl
none_tests false false true r = refl
none_tests false false false r = refl

pub copy_nothing : (objs : List Object) (to from : PtrValue) → IsPointer objs to → IsPointer objs from
    → copy objs to from 0 ≡ (if is_dead objs to || is_dead objs from then Err kind.DeadObject else Ok objs)
copy_nothing objs to from h k = go (is_dead objs to) (is_dead objs from) refl refl
  where
    go : (a b : Bool) → is_dead objs to ≡ a → is_dead objs from ≡ b
        → tested (test (a || (b || false)) kind.DeadObject ∷ test ((is_null to && false) || ((is_null from && false) || false))
        kind.NullPointer ∷ test (is_out objs 0 0 to || (is_out objs 0 0 from || false)) kind.OutOfObject ∷ test
        ((is_fixed objs to && false) || false) kind.ReadOnly ∷ []) (Ok (put_at objs to 0 []))
        ≡ (if a || b then Err kind.DeadObject else Ok objs)
    go true b d e = refl
    go false true d e = refl
    go false false d e = rw (none_out objs to h d, none_out objs from k e)
        (none_tests (is_null to) (is_null from) (is_fixed objs to) (Ok (put_at objs to 0 [])) ∙ ap Ok (nothing_put objs to))

pub copied_none : (objs : List Object) (to from : PtrValue) (n : ℕ) → IsPointer objs to → IsPointer objs from → n ≡ 0
    → is_dead objs to ≡ false → is_dead objs from ≡ false → copy objs to from n ≡ Ok objs
copied_none objs to from n h k e d f =
    let none = copy_nothing objs to from h k in
    ap (copy objs to from) e ∙ none ∙ rw (d, f) refl
