-- What rows come to over objects, by what their acts came to.
use Rattle.std.proofs.Common.{◌≡◌, ℕ, zero, suc, ◌≤◌, ltb, List, [], ◌∷◌, length, map, replicate, Result, Ok, Err, refl, sym, ap, ◌∙◌, subst, arith}
use Rattle.std.specs.Prelude.{if◌then◌else◌, pos, ◌+ℤ◌, ◌-ℤ◌}
use Rattle.std.proofs.lemmas.Bool.{le-ltb}
use Rattle.std.proofs.lemmas.Int.{ints}
use Rattle.std.proofs.lemmas.List.{length-replicate}
use Rattle.fc_base.specs.declared.undefined.UndefKind.{UndefKind}
use Rattle.run_meaning.specs.Worlds.{World}
use Rattle.library_meaning.specs.Rows.{Answer, Given, answer}
use Rattle.library_meaning.specs.Scan.{and_then}
use Rattle.object_meaning.specs.Memory.{copy}
use Rattle.object_meaning.specs.Objects.{Object}
use Rattle.object_meaning.specs.OnObjects as on
use Rattle.object_meaning.specs.OnObjects.{ObjectStop, behind_pointer, unless_undefined, value_of}
use Rattle.object_meaning.specs.Provenance.{moved_tag, place}
use Rattle.object_meaning.specs.Touches.{tested, touch_tests, put_at}
use Rattle.object_meaning.specs.declared.values.Cell.TheVariants.{Byte}
use Rattle.object_meaning.specs.declared.values.PtrValue.{PtrValue}
use Rattle.object_meaning.specs.declared.values.PtrValue.TheVariants.{Null, At}
use Rattle.object_meaning.specs.declared.values.Tag.{Tag}
use Rattle.object_meaning.specs.declared.values.Tag.TheVariants.{Known, Bound, Unknown}
use Rattle.object_meaning.specs.declared.values.Value.{Value}
use Rattle.object_meaning.specs.declared.values.Value.TheVariants.{Pointer}
use Rattle.src_values.specs.Numbers.{Changes}
use Rattle.src_lib.specs.Does.{Does, GivesWith, gives}
use Rattle.src_lib.specs.Ends.{stop_of}
use Rattle.src_lib.specs.Reaches.{apart_tests, reach_of}
use Rattle.src_lib.specs.Stores.{copied_apart, filled, read_at, written_at}
use Rattle.src_lib.specs.declared.ends.Stop.{Stop}
use Rattle.src_lib.specs.declared.ends.Stop.TheVariants as stops
use Rattle.src_lib.proofs.Tests.{tested_then}

-- so many of one byte, as cells
pub map_same : (n b : ℕ) → map Byte (replicate n b) ≡ replicate n (Byte b)
map_same zero b = refl
map_same (suc n) b = ap (λ cs. Byte b ∷ cs) (map_same n b)

-- a row whose last act changed memory, or was undefined
pub does_changed : (args : List Value) (w : World) (given : Given) (v : Value) (objs new : List Object)
    (r : Result (List Object) UndefKind) (done : Result (Unit {0}) UndefKind) → Changes r objs new done → v ≡ value_of args given
    → Does args w (and_then (unless_undefined r) (λ l. Ok (answer l w given))) objs new (gives done v)
does_changed args w given v objs new (Ok l) (Ok u) h e = (e, h, refl)
does_changed args w given v objs new (Ok l) (Err k) h e = absurd h
does_changed args w given v objs new (Err k) (Ok u) h e = let no = h.0 in absurd (cc)
does_changed args w given v objs new (Err k) (Err j) h e = (let same : j ≡ k = (let f = h.0 in cc) in ap on.Undefined same, h.1)

pub does_gave : (args : List Value) (w : World) (given : Given) (v : Value) (objs new : List Object)
    (r : Result (List Object) UndefKind) (done : Result (Unit {0}) UndefKind) (result : Result Value Stop) → Changes r objs new done
    → v ≡ value_of args given → result ≡ gives done v → Does args w (and_then (unless_undefined r) (λ l. Ok (answer l w given))) objs new result
does_gave args w given v objs new r done result h e is =
    subst (λ x. Does args w (and_then (unless_undefined r) (λ m. Ok (answer m w given))) objs new x) (sym is)
    (does_changed args w given v objs new r done h e)

-- the same of a call that gives a number
pub gives_changed : (given : ℕ → Given) (w : World) (k : ℕ) (objs new : List Object) (r : Result (List Object) UndefKind)
    (u : Unit {0}) → Changes r objs new (Ok u) → GivesWith given w (and_then (unless_undefined r) (λ m. Ok (answer m w (given k)))) objs new (Ok k)
gives_changed given w k objs new (Ok m) u h = (refl, h, refl)
gives_changed given w k objs new (Err e) u h = let no = h.0 in absurd (cc)

pub gives_stopped : (given : ℕ → Given) (w : World) (f : List Object → Result (Answer (List Object)) ObjectStop) (objs new : List Object)
    (r : Result (List Object) UndefKind) (k : UndefKind) → Changes r objs new (Err k)
    → GivesWith given w (and_then (unless_undefined r) f) objs new (Err (stops.Undefined k))
gives_stopped given w f objs new (Ok m) k h = absurd h
gives_stopped given w f objs new (Err e) k h = (let same : k ≡ e = (let is = h.0 in cc) in ap on.Undefined same, h.1)

-- from a call that gives a number to one that gives a value
pub with_ok : (args : List Value) (given : ℕ → Given) (w : World) (ran : Result (Answer (List Object)) ObjectStop) (objs new : List Object)
    (k : ℕ) (v : Value) → GivesWith given w ran objs new (Ok k) → v ≡ value_of args (given k) → Does args w ran objs new (Ok v)
with_ok args given w (Ok a) objs new k v h e = (e ∙ ap (value_of args) (sym h.0), h.1, h.2)
with_ok args given w (Err s) objs new k v h e = absurd h

pub with_err : (args : List Value) (given : ℕ → Given) (w : World) (ran : Result (Answer (List Object)) ObjectStop) (objs new : List Object)
    (stop : Stop) → GivesWith given w ran objs new (Err stop) → Does args w ran objs new (Err stop)
with_err args given w (Ok a) objs new stop h = h
with_err args given w (Err s) objs new stop h = h

-- a row that stops
pub stops_as : (args : List Value) (w : World) (ran : Result (Answer (List Object)) ObjectStop) (objs : List Object) (stop : Stop)
    → ran ≡ Err (stop_of stop) → Does args w ran objs objs (Err stop)
stops_as args w ran objs stop e = subst (λ r. Does args w r objs objs (Err stop)) (sym e) (refl, refl)

pub gives_as : (given : ℕ → Given) (w : World) (ran : Result (Answer (List Object)) ObjectStop) (objs : List Object) (stop : Stop)
    → ran ≡ Err (stop_of stop) → GivesWith given w ran objs objs (Err stop)
gives_as given w ran objs stop e = subst (λ r. GivesWith given w r objs objs (Err stop)) (sym e) (refl, refl)

-- a row that reads and gives
pub reads_as : (args : List Value) (w : World) (ran : Result (Answer (List Object)) ObjectStop) (objs : List Object) (given : Given) (v : Value)
    → ran ≡ Ok (answer objs w given) → v ≡ value_of args given → Does args w ran objs objs (Ok v)
reads_as args w ran objs given v e f = subst (λ r. Does args w r objs objs (Ok v)) (sym e) (f, refl, refl)

-- ---- calls that move bytes by their count

-- a row whose request is within the size
pub within_does : (args : List Value) (w : World) (size n : ℕ) (r : Result (Answer (List Object)) ObjectStop) (objs new : List Object)
    (result : Result Value Stop) → n ≤ size → Does args w r objs new result
    → Does args w (if ltb size n then Err on.Overflow else r) objs new result
within_does args w size n r objs new result l h = rw (le-ltb size n l) h

-- and whose act changed memory, or was undefined
pub changed_by : (args : List Value) (w : World) (size n : ℕ) (given : Given) (v : Value) (objs new : List Object)
    (r : Result (List Object) UndefKind) (done : Result (Unit {0}) UndefKind) (result : Result Value Stop) → n ≤ size
    → Changes r objs new done → v ≡ value_of args given → result ≡ gives done v
    → Does args w (if ltb size n then Err on.Overflow else and_then (unless_undefined r) (λ l. Ok (answer l w given))) objs new result
changed_by args w size n given v objs new r done result l h e is =
    within_does args w size n (and_then (unless_undefined r) (λ m. Ok (answer m w given))) objs new result l
    (does_gave args w given v objs new r done result h e is)

pub does_stopped : (args : List Value) (w : World) (f : List Object → Result (Answer (List Object)) ObjectStop) (objs new : List Object)
    (r : Result (List Object) UndefKind) (k : UndefKind) → Changes r objs new (Err k)
    → Does args w (and_then (unless_undefined r) f) objs new (Err (stops.Undefined k))
does_stopped args w f objs new (Ok m) k h = absurd h
does_stopped args w f objs new (Err e) k h = (let same : k ≡ e = (let is = h.0 in cc) in ap on.Undefined same, h.1)

-- a copy between two places that are apart
pub copied_row : {A : Type 0} (objs : List Object) (d s : PtrValue) (n : ℕ) (f : List Object → Result A ObjectStop)
    → and_then (unless_undefined (tested (apart_tests objs (written_at d 0 n) (read_at s n)) (Ok objs)))
    (λ k. and_then (unless_undefined (copy k d s n)) f)
    ≡ and_then (unless_undefined (copied_apart objs d s n)) f
copied_row {A} objs d s n f =
    ap (λ r. and_then (unless_undefined r) (λ k. and_then (unless_undefined (copy k d s n)) f))
    (tested_then (apart_tests objs (written_at d 0 n) (read_at s n)) objs)
    ∙ go (tested (apart_tests objs (written_at d 0 n) (read_at s n)) (Ok (tt {0})))
  where
    go : (r : Result (Unit {0}) UndefKind)
        → and_then (unless_undefined (and_then r (λ u. Ok objs))) (λ k. and_then (unless_undefined (copy k d s n)) f)
        ≡ and_then (unless_undefined (and_then r (λ u. copy objs d s n))) f
    go (Ok u) = refl
    go (Err k) = refl

-- so many of one byte, as bytes and as cells
pub filled_row : (objs : List Object) (d : PtrValue) (b n : ℕ)
    → filled objs d b n ≡ tested (touch_tests objs (reach_of (written_at d 0 (length (replicate n b))) ∷ []))
    (Ok (put_at objs d 0 (map Byte (replicate n b))))
filled_row objs d b n =
    ap (λ k. tested (touch_tests objs (reach_of (written_at d 0 k) ∷ [])) (Ok (put_at objs d 0 (replicate n (Byte b))))) (sym (length-replicate n b))
    ∙ ap (λ cs. tested (touch_tests objs (reach_of (written_at d 0 (length (replicate n b))) ∷ [])) (Ok (put_at objs d 0 cs))) (sym (map_same n b))

tag_none : (t : Tag) → moved_tag (pos 0) t ≡ t
tag_none Known = refl
tag_none (Bound r) = ap Bound (let e : r -ℤ pos 0 ≡ r = omega (arith, ints) in e)
tag_none Unknown = refl

-- a pointer, as the place behind it by nothing
pub behind_none : (d : PtrValue) → Pointer d ≡ behind_pointer d 0
behind_none (Null claim) = refl
behind_none (At p) =
    let e : p.offset +ℤ pos 0 ≡ p.offset = omega (arith, ints) in
    sym (ap (λ z. Pointer (At (place p.object z p.end (moved_tag (pos 0) p.tag)))) e
    ∙ ap (λ t. Pointer (At (place p.object p.offset p.end t))) (tag_none p.tag))
