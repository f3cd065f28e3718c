-- What tests that none fails say of bytes that are touched.
use Rattle.std.proofs.Common.{◌≡◌, ℕ, ◌≤◌, Bool, true, false, ◌||◌, List, [], ◌∷◌, ◌++◌, Result, Ok, Err, refl, sym, ap, ◌∙◌}
use Rattle.std.specs.Prelude.{if◌then◌else◌}
use Rattle.std.proofs.lemmas.Bool.{not-false}
use Rattle.fc_base.specs.declared.undefined.UndefKind.{UndefKind}
use Rattle.fc_base.specs.declared.undefined.UndefKind.TheVariants as kind
use Rattle.library_meaning.specs.Scan.{and_then}
use Rattle.object_meaning.specs.Objects.{Object}
use Rattle.object_meaning.specs.OnObjects.{ObjectStop, unless_undefined}
use Rattle.object_meaning.specs.Provenance.{IsPointer}
use Rattle.object_meaning.specs.Touches.{Test, test, tested, touch_tests, is_dead}
use Rattle.object_meaning.specs.declared.values.PtrValue.{PtrValue}
use Rattle.object_meaning.specs.declared.values.PtrValue.TheVariants.{Null, At}
use Rattle.object_meaning.proofs.Tested.{AllPass, or_left, or_right}
use Rattle.src_values.specs.Room.{IsRoom}
use Rattle.src_lib.specs.Reaches.{StartsIn, is_kept, is_nothing, leaves, overlaps, reach_of, apart_tests, touched_both, touched_one}
use Rattle.src_lib.specs.declared.reaches.Reach.{Reach}

-- ---- tests, whatever follows them

-- what follows is done where none fails
pub tested_then : {X : Type 0} (ts : List Test) (x : X) → tested ts (Ok x) ≡ and_then (tested ts (Ok (tt {0}))) (λ u. Ok x)
tested_then [] x = refl
tested_then {X} (t ∷ ts) x = go t.fails (tested_then ts x)
  where
    go : (b : Bool) → tested ts (Ok x) ≡ and_then (tested ts (Ok (tt {0}))) (λ u. Ok x)
        → (if b then Err t.kind else tested ts (Ok x)) ≡ and_then (if b then Err t.kind else tested ts (Ok (tt {0}))) (λ u. Ok x)
    go true h = refl
    go false h = h

pub all_pass : (ts : List Test) (u : Unit {0}) → tested ts (Ok (tt {0})) ≡ Ok u → AllPass ts
all_pass [] u e = tt
all_pass (t ∷ ts) u e = go t.fails refl (all_pass ts u) e
  where
    go : (b : Bool) → t.fails ≡ b → (tested ts (Ok (tt {0})) ≡ Ok u → AllPass ts) → (if b then Err t.kind else tested ts (Ok (tt {0}))) ≡ Ok u
        → AllPass (t ∷ ts)
    go true f h g = absurd (cc)
    go false f h g = (f, h g)

pub tested_pass : {X : Type 0} (ts : List Test) (r : Result X UndefKind) → AllPass ts → tested ts r ≡ r
tested_pass [] r p = refl
tested_pass (t ∷ ts) r p = rw p.0 (tested_pass ts r p.1)

front_pass : (ss ts : List Test) → AllPass (ss ++ ts) → AllPass ss
front_pass [] ts p = tt
front_pass (s ∷ ss) ts p = (p.0, front_pass ss ts p.1)

-- ---- the tests in their order, as code makes them

one_in_order : (dead nothing out kept : Bool)
    → tested (test (dead || false) kind.DeadObject ∷ test (nothing || false) kind.NullPointer ∷ test (out || false) kind.OutOfObject
    ∷ test (kept || false) kind.ReadOnly ∷ []) (Ok (tt {0}))
    ≡ (if dead then Err kind.DeadObject else (if nothing then Err kind.NullPointer else (if out then Err kind.OutOfObject
    else (if kept then Err kind.ReadOnly else Ok tt))))
one_in_order true nothing out kept = refl
one_in_order false true out kept = refl
one_in_order false false true kept = refl
one_in_order false false false true = refl
one_in_order false false false false = refl

pub one_is : (objs : List Object) (a : Reach) → touched_one objs a ≡ tested (touch_tests objs (reach_of a ∷ [])) (Ok tt)
one_is objs a = sym (one_in_order (is_dead objs a.pointer) (is_nothing a) (leaves objs a) (is_kept objs a))

both_in_order : (d e n m o p k l : Bool)
    → tested (test (d || (e || false)) kind.DeadObject ∷ test (n || (m || false)) kind.NullPointer ∷ test (o || (p || false)) kind.OutOfObject
    ∷ test (k || (l || false)) kind.ReadOnly ∷ []) (Ok (tt {0}))
    ≡ (if d || e then Err kind.DeadObject else (if n || m then Err kind.NullPointer else (if o || p then Err kind.OutOfObject
    else (if k || l then Err kind.ReadOnly else Ok tt))))
both_in_order true e n m o p k l = refl
both_in_order false true n m o p k l = refl
both_in_order false false true m o p k l = refl
both_in_order false false false true o p k l = refl
both_in_order false false false false true p k l = refl
both_in_order false false false false false true k l = refl
both_in_order false false false false false false true l = refl
both_in_order false false false false false false false true = refl
both_in_order false false false false false false false false = refl

pub both_is : (objs : List Object) (a b : Reach) → touched_both objs a b
    ≡ tested (touch_tests objs (reach_of a ∷ reach_of b ∷ [])) (Ok tt)
both_is objs a b = sym (both_in_order (is_dead objs a.pointer) (is_dead objs b.pointer) (is_nothing a) (is_nothing b) (leaves objs a)
    (leaves objs b) (is_kept objs a) (is_kept objs b))

-- ---- room for what is touched

pub room_of_one : (objs : List Object) (a : Reach) → IsPointer objs a.pointer → AllPass (touch_tests objs (reach_of a ∷ []))
    → IsRoom objs a.pointer a.offset a.count
room_of_one objs a h p = record {
  pointer = h;
  live = or_left (is_dead objs a.pointer) false p.0;
  within = or_left (leaves objs a) false p.1.1.0;
}

pub room_of_first : (objs : List Object) (a b : Reach) → IsPointer objs a.pointer → AllPass (touch_tests objs (reach_of a ∷ reach_of b ∷ []))
    → IsRoom objs a.pointer a.offset a.count
room_of_first objs a b h p = record {
  pointer = h;
  live = or_left (is_dead objs a.pointer) (is_dead objs b.pointer || false) p.0;
  within = or_left (leaves objs a) (leaves objs b || false) p.1.1.0;
}

pub room_of_second : (objs : List Object) (a b : Reach) → IsPointer objs b.pointer → AllPass (touch_tests objs (reach_of a ∷ reach_of b ∷ []))
    → IsRoom objs b.pointer b.offset b.count
room_of_second objs a b h p = record {
  pointer = h;
  live = or_left (is_dead objs b.pointer) false (or_right (is_dead objs a.pointer) (is_dead objs b.pointer || false) p.0);
  within = or_left (leaves objs b) false (or_right (leaves objs a) (leaves objs b || false) p.1.1.0);
}

-- the first of two is touched alone
pub first_pass : (objs : List Object) (a b : Reach) → AllPass (touch_tests objs (reach_of a ∷ reach_of b ∷ []))
    → AllPass (touch_tests objs (reach_of a ∷ []))
first_pass objs a b p = (
  one (is_dead objs a.pointer) (is_dead objs b.pointer) p.0,
  (
    one (is_nothing a) (is_nothing b) p.1.0,
    (
      one (leaves objs a) (leaves objs b) p.1.1.0,
      (one (is_kept objs a) (is_kept objs b) p.1.1.1.0, tt),
    ),
  ),
)
  where
    one : (x y : Bool) → x || (y || false) ≡ false → x || false ≡ false
    one x y e = rw (or_left x (y || false) e) refl

-- ---- bytes that are apart

pub touch_pass : (objs : List Object) (to from : Reach) → AllPass (apart_tests objs to from)
    → AllPass (touch_tests objs (reach_of to ∷ reach_of from ∷ []))
touch_pass objs to from p = front_pass (touch_tests objs (reach_of to ∷ reach_of from ∷ [])) (test (overlaps to from || false) kind.Overlap ∷ []) p

pub starts_in : (objs : List Object) (v : PtrValue) (offset : ℕ) → IsPointer objs v → is_dead objs v ≡ false → offset ≤ 4294967296
    → StartsIn offset v
starts_in objs (Null claim) offset h d few = tt
starts_in objs (At p) offset h d few = ((h.valid (not-false _ d)).starts.0, few)

-- tests that pass, and then one that fails or not
pub behind_tests : (ts : List Test) (t : Test) → AllPass ts → tested (ts ++ t ∷ []) (Ok (tt {0})) ≡ (if t.fails then Err t.kind else Ok tt)
behind_tests [] t p = refl
behind_tests (s ∷ ss) t p = rw p.0 (behind_tests ss t p.1)

pub stopped_tests : (ss ts : List Test) (k : UndefKind) → tested ss (Ok (tt {0})) ≡ Err k → tested (ss ++ ts) (Ok (tt {0})) ≡ Err k
stopped_tests [] ts k e = absurd (cc)
stopped_tests (s ∷ ss) ts k e = go s.fails (stopped_tests ss ts k) e
  where
    go : (b : Bool) → (tested ss (Ok (tt {0})) ≡ Err k → tested (ss ++ ts) (Ok (tt {0})) ≡ Err k)
        → (if b then Err s.kind else tested ss (Ok (tt {0}))) ≡ Err k → (if b then Err s.kind else tested (ss ++ ts) (Ok (tt {0}))) ≡ Err k
    go true h f = f
    go false h f = h f

-- what is apart is stored, whether or not the store is tested anew
pub apart_store : {A : Type 0} (objs : List Object) (to from : Reach) (new : List Object → List Object) (f : List Object → Result A ObjectStop)
    → and_then (unless_undefined (tested (apart_tests objs to from) (Ok objs)))
    (λ m. and_then (unless_undefined (tested (touch_tests m (reach_of to ∷ [])) (Ok (new m)))) f)
    ≡ and_then (unless_undefined (tested (apart_tests objs to from) (Ok (new objs)))) f
apart_store {A} objs to from new f = go (tested (apart_tests objs to from) (Ok (tt {0}))) refl
  where
    go : (r : Result (Unit {0}) UndefKind) → tested (apart_tests objs to from) (Ok (tt {0})) ≡ r
        → and_then (unless_undefined (tested (apart_tests objs to from) (Ok objs)))
        (λ m. and_then (unless_undefined (tested (touch_tests m (reach_of to ∷ [])) (Ok (new m)))) f)
        ≡ and_then (unless_undefined (tested (apart_tests objs to from) (Ok (new objs)))) f
    go (Ok u) e =
        let p = all_pass (apart_tests objs to from) u e in
        let alone = first_pass objs to from (touch_pass objs to from p) in
        ap (λ r. and_then (unless_undefined r) (λ m. and_then (unless_undefined (tested (touch_tests m (reach_of to ∷ [])) (Ok (new m)))) f))
        (tested_pass (apart_tests objs to from) (Ok objs) p)
        ∙ ap (λ r. and_then (unless_undefined r) f) (tested_pass (touch_tests objs (reach_of to ∷ [])) (Ok (new objs)) alone)
        ∙ sym (ap (λ r. and_then (unless_undefined r) f) (tested_pass (apart_tests objs to from) (Ok (new objs)) p))
    go (Err k) e =
        ap (λ r. and_then (unless_undefined r) (λ m. and_then (unless_undefined (tested (touch_tests m (reach_of to ∷ [])) (Ok (new m)))) f))
        (tested_then (apart_tests objs to from) objs ∙ ap (λ r. and_then r (λ u. Ok objs)) e)
        ∙ sym (ap (λ r. and_then (unless_undefined r) f)
        (tested_then (apart_tests objs to from) (new objs) ∙ ap (λ r. and_then r (λ u. Ok (new objs))) e))
