-- The rows of texts, by what was found and stored.
use Rattle.std.proofs.Common.{◌≡◌, ◌≢◌, ℕ, ◌+◌, ◌-◌, ◌<◌, ◌≤◌, Bool, true, false, ◌||◌, ltb, List, [], ◌∷◌, ◌++◌, length, map, take, replicate, Option, None, Some, Result, Ok, Err, refl, ap, ◌∙◌, subst, arith, length-append, ⊎_elim}
use Rattle.std.specs.Prelude.{if◌then◌else◌, is_some}
use Rattle.std.proofs.lemmas.Bool.{le-ltb, lt-ltb, ne_eqb, cases_eq}
use Rattle.std.proofs.lemmas.List.{length-replicate}
use Rattle.fc_base.specs.declared.undefined.UndefKind.{UndefKind}
use Rattle.fc_base.specs.declared.undefined.UndefKind.TheVariants as kind
use Rattle.run_meaning.specs.Worlds.{World}
use Rattle.library_meaning.specs.Rows.{Row, Gives, Check, Point, Answer, Given, Behind, Nowhere, answer, run, stretch}
use Rattle.library_meaning.specs.Scan.{Found, and_then}
use Rattle.library_meaning.specs.Table as table
use Rattle.library_meaning.specs.Table.{appended, both_for, cells_read, ended, nul, pointers, putting, second_for, within}
use Rattle.object_meaning.specs.Objects.{Object}
use Rattle.object_meaning.specs.OnObjects as on
use Rattle.object_meaning.specs.OnObjects.{ObjectStop, on_objects, unless_undefined, point_tests}
use Rattle.object_meaning.specs.Touches.{test, tested, touch_tests, is_dead, is_null, reads, cells_from, cells_at, put_at}
use Rattle.object_meaning.specs.declared.values.Cell.{Cell}
use Rattle.object_meaning.specs.declared.values.Cell.TheVariants.{Byte}
use Rattle.object_meaning.specs.declared.values.PtrValue.{PtrValue}
use Rattle.object_meaning.specs.declared.values.Value.{Value}
use Rattle.object_meaning.specs.declared.values.Value.TheVariants.{Int, Pointer}
use Rattle.src_lib.specs.Reaches.{apart_tests, pointed, reach_of, touched_for}
use Rattle.src_lib.specs.Stores.{read_at, text_put, written_at}
use Rattle.src_lib.specs.Texts.{IsShort, cells_of, ends_at, found, text_behind}
use Rattle.src_lib.specs.declared.texts.Text.{Text}
use Rattle.src_lib.proofs.Scans.{length_found, nul_is, text_plain}
use Rattle.src_lib.proofs.Rows.{map_same}
use Rattle.src_lib.proofs.Tests.{apart_store, tested_then}

-- a scan of a row for a NUL
pub nul_found : (objs : List Object) (v : PtrValue) (limit : ℕ) (r : Result Found UndefKind) → text_behind objs v (ends_at 0) limit ≡ r
    → text_behind objs v nul limit ≡ r
nul_found objs v limit r e = subst (λ stops. text_behind objs v stops limit ≡ r) nul_is e

-- bytes that are found, as cells
map_both : (xs ys : List ℕ) → map Byte (xs ++ ys) ≡ map Byte xs ++ map Byte ys
map_both [] ys = refl
map_both (x ∷ xs) ys = ap (λ cs. Byte x ∷ cs) (map_both xs ys)

read_is : (cells : List Cell) (t : Text) → length (found cells t).before ≡ t.len → cells_read (found cells t) ≡ cells_of t
read_is cells t long = go t.stop
  where
    go : (o : Option ℕ)
        → ◌≡◌ {A = ℕ} (elim o [ None ↦ length (found cells t).before | Some byte ↦ length (found cells t).before + 1 ])
        (elim o [ None ↦ t.len | Some byte ↦ t.len + 1 ])
    go None = long
    go (Some byte) = ap (λ n. n + 1) long

-- the row behind the scan of a text that is appended
abbrev put_row : ℕ → Found → Row
put_row k g = putting false k (g.before ++ 0 ∷ []) (stretch 1 0 (cells_read g) ∷ []) (Gives (Behind 0 0))

abbrev after_check : Bool → ℕ → Found → Row
after_check reads k g = Point pointers (touched_for reads) (put_row k g)

abbrev after_text : Bool → ℕ → ℕ → Found → Row
after_text reads size k g = within size (k + length g.before + 1) (after_check reads k g)

module _ (rest : List Value) (d s : PtrValue) where
  abbrev args : List Value
  args = Pointer d ∷ Pointer s ∷ rest

  -- ---- a look at the pointers

  look : (dd ds nd ns : Bool)
      → tested (test (dd || (ds || false)) kind.DeadObject ∷ test (nd || (ns || false)) kind.NullPointer ∷ []) (Ok (tt {0}))
      ≡ (if dd || ds then Err kind.DeadObject else (if nd || ns then Err kind.NullPointer else Ok tt))
  look true ds nd ns = refl
  look false true nd ns = refl
  look false false true ns = refl
  look false false false true = refl
  look false false false false = refl

  look_one : (dd ds nd : Bool)
      → tested (test (dd || (ds || false)) kind.DeadObject ∷ test (nd || false) kind.NullPointer ∷ []) (Ok (tt {0}))
      ≡ (if dd || ds then Err kind.DeadObject else (if nd || false then Err kind.NullPointer else Ok tt))
  look_one true ds nd = refl
  look_one false true nd = refl
  look_one false false true = refl
  look_one false false false = refl

  look_none : (dd ds : Bool) → tested (test (dd || (ds || false)) kind.DeadObject ∷ test false kind.NullPointer ∷ []) (Ok (tt {0}))
      ≡ (if dd || ds then Err kind.DeadObject else Ok tt)
  look_none true ds = refl
  look_none false true = refl
  look_none false false = refl

  module _ (objs : List Object) where
    pub looked_for : (reads : Bool) → tested (point_tests args objs pointers (touched_for reads)) (Ok (tt {0})) ≡ pointed objs d s true reads
    looked_for true = look (is_dead objs d) (is_dead objs s) (is_null d) (is_null s)
    looked_for false = look_one (is_dead objs d) (is_dead objs s) (is_null d)

    looked_both : (writes : Bool) → tested (point_tests args objs pointers (if writes then pointers else [])) (Ok (tt {0}))
        ≡ pointed objs d s writes writes
    looked_both true = look (is_dead objs d) (is_dead objs s) (is_null d) (is_null s)
    looked_both false = look_none (is_dead objs d) (is_dead objs s)

    -- the row goes on behind it
    pub point_row : {A : Type 0} (touched : List ℕ) (p : Result (Unit {0}) UndefKind) (f : List Object → Result A ObjectStop)
        → tested (point_tests args objs pointers touched) (Ok (tt {0})) ≡ p
        → and_then (unless_undefined (tested (point_tests args objs pointers touched) (Ok objs))) f
        ≡ and_then (unless_undefined p) (λ u. f objs)
    point_row {A} touched p f e =
        ap (λ r. and_then (unless_undefined r) f)
        (tested_then (point_tests args objs pointers touched) objs ∙ ap (λ r. and_then r (λ u. Ok objs)) e) ∙ go p
      where
        go : (r : Result (Unit {0}) UndefKind)
            → and_then (unless_undefined (and_then r (λ u. Ok objs))) f ≡ and_then (unless_undefined r) (λ u. f objs)
        go (Ok u) = refl
        go (Err k) = refl

    -- ---- a text that is stored

    module _ (t : Text) (limit : ℕ) (is : text_behind objs s (ends_at 0) limit ≡ Ok (found (cells_from objs s 0) t)) (short : IsShort objs s limit t) where
      abbrev f : Found
      f = found (cells_from objs s 0) t

      long : length f.before ≡ t.len
      long = length_found (cells_from objs s 0) t short.inside

      plain : map Byte f.before ≡ cells_at objs (reads s t.len)
      plain = text_plain 0 objs s limit f is ∙ ap (λ n. take n (cells_from objs s 0)) long

      stored_cells : (zeros : ℕ) → map Byte (f.before ++ replicate zeros 0) ≡ cells_at objs (reads s t.len) ++ replicate zeros (Byte 0)
      stored_cells zeros = map_both f.before (replicate zeros 0) ∙ ap (λ cs. cs ++ map Byte (replicate zeros 0)) plain
          ∙ ap (λ cs. cells_at objs (reads s t.len) ++ cs) (map_same zeros 0)

      stored_long : (zeros : ℕ) → length (f.before ++ replicate zeros 0) ≡ t.len + zeros
      stored_long zeros = length-append f.before (replicate zeros 0) ∙ ap (λ n. n + length {A = ℕ} (replicate zeros 0)) long
          ∙ ap (λ n. t.len + n) (length-replicate zeros 0)

      -- the acts of a store, with how much is stored and read and which cells
      abbrev store_acts : {A : Type 0} → ℕ → ℕ → ℕ → List Cell → (List Object → Result A ObjectStop) → Result A ObjectStop
      store_acts k n c cells g =
          and_then (unless_undefined (tested (apart_tests objs (written_at d k n) (read_at s c)) (Ok objs)))
          (λ m. and_then (unless_undefined (tested (touch_tests m (reach_of (written_at d k n) ∷ [])) (Ok (put_at m d k cells)))) g)

      pub putting_is : (k zeros : ℕ) (next : Row) (w : World)
          → run (on_objects args) (putting false k (f.before ++ replicate zeros 0) (stretch 1 0 (cells_read f) ∷ []) next) objs w
          ≡ and_then (unless_undefined (text_put objs d k s t zeros)) (λ l. run (on_objects args) next l w)
      putting_is k zeros next w =
          ap (λ n. store_acts k n (cells_read f) (map Byte (f.before ++ replicate zeros 0)) (λ l. run (on_objects args) next l w)) (stored_long zeros)
          ∙ ap (λ c. store_acts k (t.len + zeros) c (map Byte (f.before ++ replicate zeros 0)) (λ l. run (on_objects args) next l w))
          (read_is (cells_from objs s 0) t long)
          ∙ ap (λ cs. store_acts k (t.len + zeros) (cells_of t) cs (λ l. run (on_objects args) next l w)) (stored_cells zeros)
          ∙ apart_store objs (written_at d k (t.len + zeros)) (read_at s (cells_of t))
          (λ m. put_at m d k (cells_at objs (reads s t.len) ++ replicate zeros (Byte 0))) (λ l. run (on_objects args) next l w)

      -- what is stored and given behind a look at the pointers
      abbrev put_and_give : ℕ → ℕ → Given → World → Result (Answer (List Object)) ObjectStop
      put_and_give k zeros given w = and_then (unless_undefined (text_put objs d k s t zeros)) (λ l. Ok (answer l w given))

      ended_row : (o : Option ℕ) (next : Row) → is_some o ≡ true → elim o [ None ↦ Check true (Gives Nowhere) | Some byte ↦ next ] ≡ next
      ended_row None next e = absurd (cc)
      ended_row (Some byte) next e = refl

      pub copy_row : (given : ℕ → Given) (w : World) → is_some t.stop ≡ true
          → run (on_objects args) (table.strcpy_giving given limit) objs w
          ≡ and_then (unless_undefined (pointed objs d s true true)) (λ u. put_and_give 0 1 (given t.len) w)
      copy_row given w e =
          ap (λ r. and_then (unless_undefined r) (λ g. run (on_objects args) (ended g (Check false (Point pointers pointers
          (putting false 0 (g.before ++ 0 ∷ []) (stretch 1 0 (cells_read g) ∷ []) (Gives (given (length g.before))))))) objs w))
          (nul_found objs s limit (Ok f) is)
          ∙ ap (λ row. run (on_objects args) row objs w) (ended_row t.stop (Check false (Point pointers pointers
          (putting false 0 (f.before ++ 0 ∷ []) (stretch 1 0 (cells_read f) ∷ []) (Gives (given (length f.before)))))) e)
          ∙ point_row pointers (pointed objs d s true true)
          (λ m. run (on_objects args) (putting false 0 (f.before ++ 0 ∷ []) (stretch 1 0 (cells_read f) ∷ []) (Gives (given (length f.before)))) m w)
          (looked_for true)
          ∙ ap (λ r. and_then (unless_undefined (pointed objs d s true true)) (λ u. r))
          (putting_is 0 1 (Gives (given (length f.before))) w ∙ ap (λ n. put_and_give 0 1 (given n) w) long)

      pub append_row : (reads : Bool) (k size : ℕ) (w : World) → k + t.len + 1 ≤ size
          → run (on_objects args) (appended (touched_for reads) size k limit) objs w
          ≡ and_then (unless_undefined (pointed objs d s true reads)) (λ u. put_and_give k 1 (Behind 0 0) w)
      append_row reads k size w fits =
          let within : ltb size (k + length f.before + 1) ≡ false = le-ltb size (k + length f.before + 1) (omega (arith, fits, long)) in
          ap (λ r. and_then (unless_undefined r) (λ g. run (on_objects args) (after_text reads size k g) objs w)) (nul_found objs s limit (Ok f) is)
          ∙ ap (λ b. if b then Err on.Overflow else run (on_objects args) (after_check reads k f) objs w) within
          ∙ point_row (touched_for reads) (pointed objs d s true reads) (λ m. run (on_objects args) (put_row k f) m w) (looked_for reads)
          ∙ ap (λ r. and_then (unless_undefined (pointed objs d s true reads)) (λ u. r)) (putting_is k 1 (Gives (Behind 0 0)) w)

      pub append_exceeds : (reads : Bool) (k size : ℕ) (w : World) → size < k + t.len + 1
          → run (on_objects args) (appended (touched_for reads) size k limit) objs w ≡ Err on.Overflow
      append_exceeds reads k size w over =
          let past : ltb size (k + length f.before + 1) ≡ true = lt-ltb size (k + length f.before + 1) (omega (arith, over, long)) in
          ap (λ r. and_then (unless_undefined r) (λ g. run (on_objects args) (after_text reads size k g) objs w)) (nul_found objs s limit (Ok f) is)
          ∙ ap (λ b. if b then Err on.Overflow else run (on_objects args) (after_check reads k f) objs w) past

-- ---- the first texts of rows

-- a row whose first act is undefined
pub undefined_first : {X A : Type 0} (r : Result X UndefKind) (k : UndefKind) (next : X → Result A ObjectStop) → r ≡ Err k
    → and_then (unless_undefined r) next ≡ Err (on.Undefined k)
undefined_first r k next e = ap (λ x. and_then (unless_undefined x) next) e

pub done_first : {X A : Type 0} (r : Result X UndefKind) (x : X) (next : X → Result A ObjectStop) → r ≡ Ok x
    → and_then (unless_undefined r) next ≡ next x
done_first r x next e = ap (λ y. and_then (unless_undefined y) next) e

-- behind the text of the destination
pub head_row : (args : List Value) (d : PtrValue) (objs : List Object) (t : Text) (limit : ℕ) (next : ℕ → Row) (w : World)
    → text_behind objs d (ends_at 0) limit ≡ Ok (found (cells_from objs d 0) t) → IsShort objs d limit t → is_some t.stop ≡ true
    → and_then (unless_undefined (text_behind objs d nul limit)) (λ g. run (on_objects args) (ended g (next (length g.before))) objs w)
    ≡ run (on_objects args) (next t.len) objs w
head_row args d objs t limit next w is short e =
    done_first (text_behind objs d nul limit) (found (cells_from objs d 0) t)
    (λ g. run (on_objects args) (ended g (next (length g.before))) objs w) (nul_found objs d limit (Ok (found (cells_from objs d 0) t)) is)
    ∙ ap (λ row. run (on_objects args) row objs w) (go t.stop e)
    ∙ ap (λ n. run (on_objects args) (next n) objs w) (length_found (cells_from objs d 0) t short.inside)
  where
    go : (o : Option ℕ) → is_some o ≡ true
        → elim o [ None ↦ Check true (Gives Nowhere) | Some byte ↦ next (length (found (cells_from objs d 0) t).before) ]
        ≡ next (length (found (cells_from objs d 0) t).before)
    go None e = absurd (cc)
    go (Some byte) e = refl

-- what is touched where a count is not 0
pub second_is : (n : ℕ) → touched_for (ltb 0 n) ≡ second_for n
second_is n = ⊎_elim (λ (e : n ≡ 0). rw e refl) (λ (ne : n ≢ 0). rw (lt-ltb 0 n (omega (arith, ne)), ne_eqb n 0 ne) refl) (cases_eq n 0)

pub both_are : (n : ℕ) → both_for n ≡ (if ltb 0 n then pointers else [])
both_are n = ⊎_elim (λ (e : n ≡ 0). rw e refl) (λ (ne : n ≢ 0). rw (lt-ltb 0 n (omega (arith, ne)), ne_eqb n 0 ne) refl) (cases_eq n 0)

-- ---- strncpy

-- its text with zero bytes behind it
abbrev pad_row : ℕ → Found → Row
pad_row n g =
    putting false 0 (g.before ++ replicate (n - length g.before) 0) (stretch 1 0 (cells_read g) ∷ []) (Gives (Behind 0 0))

module _ (d s : PtrValue) (n : ℕ) (objs : List Object) (w : World) where
  abbrev three : List Value
  three = Pointer d ∷ Pointer s ∷ Int n ∷ []

  abbrev behind_look : List Object → Result (Answer (List Object)) ObjectStop
  behind_look m = and_then (unless_undefined (text_behind m s nul n)) (λ g. run (on_objects three) (pad_row n g) m w)

  pub pad_first : (size : ℕ) → n ≤ size → run (on_objects three) (table.strncpy size) objs w
      ≡ and_then (unless_undefined (pointed objs d s (ltb 0 n) (ltb 0 n))) (λ u. behind_look objs)
  pad_first size l =
      ap (λ b. if b then Err on.Overflow else and_then (unless_undefined (tested (point_tests three objs pointers (both_for n)) (Ok objs))) behind_look)
      (le-ltb size n l)
      ∙ ap (λ touched. and_then (unless_undefined (tested (point_tests three objs pointers touched) (Ok objs))) behind_look) (both_are n)
      ∙ point_row (Int n ∷ []) d s objs (if ltb 0 n then pointers else []) (pointed objs d s (ltb 0 n) (ltb 0 n)) behind_look
      (looked_both (Int n ∷ []) d s objs (ltb 0 n))

  pub pad_stops : (size : ℕ) (u : Unit {0}) (k : UndefKind) → n ≤ size → pointed objs d s (ltb 0 n) (ltb 0 n) ≡ Ok u
      → text_behind objs s (ends_at 0) n ≡ Err k → run (on_objects three) (table.strncpy size) objs w ≡ Err (on.Undefined k)
  pad_stops size u k l e is =
      pad_first size l ∙ done_first (pointed objs d s (ltb 0 n) (ltb 0 n)) u (λ v. behind_look objs) e
      ∙ undefined_first (text_behind objs s nul n) k (λ g. run (on_objects three) (pad_row n g) objs w) (nul_found objs s n (Err k) is)

  pub pad_is : (size : ℕ) (u : Unit {0}) (t : Text) → n ≤ size → pointed objs d s (ltb 0 n) (ltb 0 n) ≡ Ok u
      → text_behind objs s (ends_at 0) n ≡ Ok (found (cells_from objs s 0) t) → IsShort objs s n t
      → run (on_objects three) (table.strncpy size) objs w
      ≡ and_then (unless_undefined (text_put objs d 0 s t (n - t.len))) (λ m. Ok (answer m w (Behind 0 0)))
  pad_is size u t l e is short =
      let g = found (cells_from objs s 0) t in
      let zeros : n - length g.before ≡ n - t.len = ap (λ k. n - k) (length_found (cells_from objs s 0) t short.inside) in
      pad_first size l ∙ done_first (pointed objs d s (ltb 0 n) (ltb 0 n)) u (λ v. behind_look objs) e
      ∙ done_first (text_behind objs s nul n) g (λ h. run (on_objects three) (pad_row n h) objs w) (nul_found objs s n (Ok g) is)
      ∙ ap (λ z. run (on_objects three) (putting false 0 (g.before ++ replicate z 0) (stretch 1 0 (cells_read g) ∷ []) (Gives (Behind 0 0))) objs w) zeros
      ∙ putting_is (Int n ∷ []) d s objs t n is short 0 (n - t.len) (Gives (Behind 0 0)) w
