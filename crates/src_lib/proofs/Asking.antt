-- Requests, as rows tell them.
use Rattle.std.proofs.Common.{◌≡◌, ℕ, zero, suc, ◌+◌, ◌-◌, Bool, true, false, not, ◌&&◌, ◌||◌, ltb, List, [], ◌∷◌, length, get_or, Option, None, Some, Result, Ok, Err, refl, sym, ap, ◌∙◌}
use Rattle.std.specs.Prelude.{if◌then◌else◌, is_some}
use Rattle.std.specs.List.{list_any}
use Rattle.std.specs.Option.{option_map, option_map_or}
use Rattle.c_library.specs.Library.{row_of}
use Rattle.c_library.specs.declared.functions.CheckedForm.{CheckedForm}
use Rattle.c_library.specs.declared.functions.LibFn.{LibFn}
use Rattle.c_library.specs.declared.functions.LibFn.TheVariants as fn
use Rattle.c_library.specs.declared.functions.LibType.{LibType}
use Rattle.c_library.specs.declared.functions.LibType.TheVariants as type
use Rattle.fc_base.specs.declared.undefined.UndefKind.{UndefKind}
use Rattle.fc_base.specs.declared.undefined.UndefKind.TheVariants as kind
use Rattle.run_meaning.specs.Worlds.{World}
use Rattle.library_meaning.specs.Rows as rows
use Rattle.library_meaning.specs.Rows.{Row, Gives, Check, Nowhere}
use Rattle.library_meaning.specs.Scan.{Found, and_then}
use Rattle.library_meaning.specs.Table.{appended, ended, no_limit, nul, second_for}
use Rattle.object_meaning.specs.LibraryCalls.{asks, checks, lib_request, limit, number_at, number_in, size_for}
use Rattle.object_meaning.specs.Objects.{Object}
use Rattle.object_meaning.specs.OnObjects.{ObjectStop, as_number, is_dead_destination, is_missing, on_objects, operand, pointer_at, unless_undefined}
use Rattle.object_meaning.specs.Touches.{test, tested, is_dead, cells_from}
use Rattle.object_meaning.specs.declared.values.PtrValue.{PtrValue}
use Rattle.object_meaning.specs.declared.values.Value.{Value}
use Rattle.object_meaning.specs.declared.values.Value.TheVariants as value
use Rattle.src_lib.specs.Requests.{all_fit, append_asks, asked, asked_of, check_as, copy_asks, fits_type, is_built, is_number, is_typed, most_of, requested}
use Rattle.src_lib.specs.Texts.{IsShort, ends_at, found, text_behind}
use Rattle.src_lib.specs.declared.texts.Text.{Text}
use Rattle.src_lib.proofs.Appends.{nul_found}
use Rattle.src_lib.proofs.Scans.{length_found}

-- ---- numbers among arguments that have their types

pub both_true : (a b : Bool) → a && b ≡ true → (a ≡ true) × (b ≡ true)
both_true true b h = (refl, h)
both_true false b h = absurd (cc)

pub none_true : (a b : Bool) → a || b ≡ false → (a ≡ false) × (b ≡ false)
none_true false b h = (refl, h)
none_true true b h = absurd (cc)

number_of : (number : Bool) (v : Value) → number ≡ true → fits_type number v ≡ true → is_missing v ≡ false → as_number v ≡ Ok (number_in v)
number_of true (value.Int n) e h m = refl
number_of true (value.Pointer p) e h m = absurd (cc)
number_of true value.Uninit e h m = absurd (cc)
number_of true value.Nothing e h m = absurd (cc)
number_of false v e h m = absurd (cc)

pub number_typed : (ts : List LibType) (variadic : Bool) (args : List Value) (i : ℕ) → all_fit ts variadic args ≡ true
    → list_any is_missing args ≡ false → is_number (get_or ts i type.Void) ≡ true → as_number (operand args i) ≡ Ok (number_at args i)
number_typed [] variadic args i h m e = absurd (cc)
number_typed (t ∷ ts) variadic [] i h m e = absurd (cc)
number_typed (t ∷ ts) variadic (v ∷ vs) zero h m e =
    number_of (is_number t) v e (both_true _ (all_fit ts variadic vs) h).0 (none_true (is_missing v) _ m).0
number_typed (t ∷ ts) variadic (v ∷ vs) (suc i) h m e =
    number_typed ts variadic vs i (both_true (fits_type (is_number t) v) _ h).1 (none_true (is_missing v) _ m).1 e

-- ---- requests that texts tell

then_ok : {X Y : Type 0} (r : Result X UndefKind) (h : X → Y) → and_then (unless_undefined r) (λ x. Ok (h x)) ≡ unless_undefined (and_then r (λ x. Ok (h x)))
then_ok (Ok x) h = refl
then_ok (Err k) h = refl

module _ (args : List Value) (objs : List Object) (w : World) where
  abbrev requests : Row → Result Bool ObjectStop
  requests row = rows.request (on_objects args) row objs w

  copy_ask : (r : Result Found UndefKind) (next : Found → Row)
      → and_then (unless_undefined r) (λ f. requests (ended f (Check false (next f)))) ≡ unless_undefined (and_then r (λ f. Ok (not (is_some f.stop))))
  copy_ask (Ok f) next = go f.stop
    where
      go : (o : Option ℕ) → rows.request (on_objects args) (elim o [ None ↦ Check true (Gives Nowhere) | Some byte ↦ Check false (next f) ]) objs w
          ≡ Ok (not (is_some o))
      go None = refl
      go (Some byte) = refl
  copy_ask (Err k) next = refl

  append_ask : (r : Result Found UndefKind) (s : PtrValue) (touched : List ℕ) (size : ℕ) (most : ℕ → ℕ) → s ≡ pointer_at args 1
      → and_then (unless_undefined r) (λ f. requests (ended f (appended touched size (length f.before) (most (size - length f.before)))))
      ≡ unless_undefined (and_then r (λ f. if is_some f.stop
      then and_then (text_behind objs s nul (most (size - length f.before))) (λ g. Ok (ltb size (length f.before + length g.before + 1)))
      else Ok true))
  append_ask (Ok f) s touched size most e = go f.stop
    where
      go : (o : Option ℕ)
          → rows.request (on_objects args)
          (elim o [ None ↦ Check true (Gives Nowhere) | Some byte ↦ appended touched size (length f.before) (most (size - length f.before)) ]) objs w
          ≡ unless_undefined (if is_some o
          then and_then (text_behind objs s nul (most (size - length f.before))) (λ g. Ok (ltb size (length f.before + length g.before + 1)))
          else Ok true)
      go None = refl
      go (Some byte) =
          ap (λ v. and_then (unless_undefined (text_behind objs v nul (most (size - length f.before))))
          (λ g. Ok (ltb size (length f.before + length g.before + 1)))) (sym e)
          ∙ then_ok (text_behind objs s nul (most (size - length f.before))) (λ g. ltb size (length f.before + length g.before + 1))
  append_ask (Err kind) s touched size most e = refl

-- ---- each function's request

module _ (args : List Value) (objs : List Object) (w : World) (missing : list_any is_missing args ≡ false) where
  one : (f : LibFn) (i : ℕ) → is_typed f args ≡ true → is_number (get_or (row_of f).parameters i type.Void) ≡ true
      → as_number (operand args i) ≡ Ok (number_at args i)
  one f i h e = number_typed (row_of f).parameters (row_of f).variadic args i h missing e

  abbrev exceeds : ℕ → Result ℕ UndefKind → Result Bool ObjectStop
  exceeds size r = and_then (unless_undefined r) (λ n. Ok (ltb size n))

  pub asks_is : (f : LibFn) → is_built f ≡ true → is_typed f args ≡ true → is_some (row_of f).checked ≡ true
      → asks f args objs w ≡ unless_undefined (asked objs f args (limit f args objs))
  asks_is fn.Memcpy b h c = ap (exceeds (limit fn.Memcpy args objs)) (one fn.Memcpy 2 h refl)
  asks_is fn.Memmove b h c = ap (exceeds (limit fn.Memmove args objs)) (one fn.Memmove 2 h refl)
  asks_is fn.Mempcpy b h c = ap (exceeds (limit fn.Mempcpy args objs)) (one fn.Mempcpy 2 h refl)
  asks_is fn.Memset b h c =
      ap (λ r. and_then (unless_undefined r) (λ n. exceeds (limit fn.Memset args objs) (as_number (operand args 2)))) (one fn.Memset 1 h refl)
      ∙ ap (exceeds (limit fn.Memset args objs)) (one fn.Memset 2 h refl)
  asks_is fn.Bzero b h c = ap (exceeds (limit fn.Bzero args objs)) (one fn.Bzero 1 h refl)
  asks_is fn.ExplicitBzero b h c = ap (exceeds (limit fn.ExplicitBzero args objs)) (one fn.ExplicitBzero 1 h refl)
  asks_is fn.Strncpy b h c = ap (exceeds (limit fn.Strncpy args objs)) (one fn.Strncpy 2 h refl)
  asks_is fn.Snprintf b h c = ap (exceeds (limit fn.Snprintf args objs)) (one fn.Snprintf 1 h refl)
  asks_is fn.Read b h c = ap (exceeds (limit fn.Read args objs)) (one fn.Read 2 h refl)
  asks_is fn.Strcpy b h c = copy_ask args objs w (text_behind objs (pointer_at args 1) nul (limit fn.Strcpy args objs)) _
  asks_is fn.Stpcpy b h c = copy_ask args objs w (text_behind objs (pointer_at args 1) nul (limit fn.Stpcpy args objs)) _
  asks_is fn.Strcat b h c =
      append_ask args objs w (text_behind objs (pointer_at args 0) nul (limit fn.Strcat args objs)) (pointer_at args 1) _
      (limit fn.Strcat args objs) (most_of None) refl
  asks_is fn.Strncat b h c =
      ap (λ r. and_then (unless_undefined r) (λ n. and_then (unless_undefined (text_behind objs (pointer_at args 0) nul (limit fn.Strncat args objs)))
      (λ f. rows.request (on_objects args) (ended f (appended (second_for n) (limit fn.Strncat args objs) (length f.before)
      (most_of (Some n) (limit fn.Strncat args objs - length f.before)))) objs w))) (one fn.Strncat 2 h refl)
      ∙ append_ask args objs w (text_behind objs (pointer_at args 0) nul (limit fn.Strncat args objs)) (pointer_at args 1)
      (second_for (number_at args 2)) (limit fn.Strncat args objs) (most_of (Some (number_at args 2))) refl
  asks_is fn.Sprintf b h c = absurd (cc)
  asks_is fn.Exit b h c = absurd (cc)
  asks_is fn.Abort b h c = absurd (cc)
  asks_is fn.Malloc b h c = absurd (cc)
  asks_is fn.Calloc b h c = absurd (cc)
  asks_is fn.Realloc b h c = absurd (cc)
  asks_is fn.Free b h c = absurd (cc)
  asks_is fn.Memcmp b h c = absurd (cc)
  asks_is fn.Strlen b h c = absurd (cc)
  asks_is fn.Strcmp b h c = absurd (cc)
  asks_is fn.Strchr b h c = absurd (cc)
  asks_is fn.Printf b h c = absurd (cc)
  asks_is fn.Puts b h c = absurd (cc)
  asks_is fn.Putchar b h c = absurd (cc)
  asks_is fn.Dprintf b h c = absurd (cc)
  asks_is fn.Write b h c = absurd (cc)
  asks_is fn.Getchar b h c = absurd (cc)
  asks_is fn.Note b h c = absurd (cc)

-- ---- the check

module _ (f : LibFn) (args : List Value) (objs : List Object) (w : World) where
  with_size : (size : ℕ) (r : Result Bool UndefKind) → check_as (and_then r (λ e. Ok (record { size = size; exceeds = e })))
      ≡ and_then (unless_undefined r) (λ e. Ok (record { size = size; exceeds = e }))
  with_size size (Ok e) = refl
  with_size size (Err k) = refl

  by_form : (o : Option CheckedForm) (m : Bool) → (row_of f).checked ≡ o
      → (m ≡ false → is_some o ≡ true → asks f args objs w ≡ unless_undefined (asked objs f args (limit f args objs)))
      → check_as (if m then Err kind.Uninitialised else asked_of objs f args o)
      ≡ and_then (unless_undefined (tested (test m kind.Uninitialised
      ∷ test (is_dead_destination args objs (option_map (λ form. form.destination) o)) kind.DeadObject ∷ []) (Ok (tt {0}))))
      (λ u. checks f args objs w o)
  by_form o true e h = refl
  by_form None false e h = refl
  by_form (Some form) false e h = go (is_dead objs (pointer_at args form.destination))
    where
      size : limit f args objs ≡ size_for objs args form
      size = ap (λ o. option_map_or (size_for objs args) o no_limit) e

      go : (dead : Bool)
          → check_as (if dead then Err kind.DeadObject
          else and_then (asked objs f args (size_for objs args form)) (λ x. Ok (record { size = size_for objs args form; exceeds = x })))
          ≡ and_then (unless_undefined (tested (test false kind.Uninitialised ∷ test dead kind.DeadObject ∷ []) (Ok (tt {0}))))
          (λ u. checks f args objs w (Some form))
      go true = refl
      go false =
          with_size (size_for objs args form) (asked objs f args (size_for objs args form))
          ∙ ap (λ n. and_then (unless_undefined (asked objs f args n)) (λ x. Ok (record { size = n; exceeds = x }))) (sym size)
          ∙ ap (λ r. and_then r (λ x. Ok (record { size = limit f args objs; exceeds = x }))) (sym (h refl refl))

  pub request_is : is_built f ≡ true → is_typed f args ≡ true → check_as (requested objs f args) ≡ lib_request f args objs w
  request_is b h = by_form (row_of f).checked (list_any is_missing args) refl (λ m c. asks_is args objs w m f b h c)

-- ---- what scans tell of both texts

pub copy_stops : (objs : List Object) (s : PtrValue) (size : ℕ) (k : UndefKind) → text_behind objs s (ends_at 0) size ≡ Err k
    → copy_asks objs s size ≡ Err k
copy_stops objs s size k e = ap (λ r. and_then r (λ f. Ok (not (is_some f.stop)))) (nul_found objs s size (Err k) e)

module _ (objs : List Object) (d s : PtrValue) (n : Option ℕ) (size : ℕ) where
  abbrev behind_head : Found → Result Bool UndefKind
  behind_head f = if is_some f.stop
      then and_then (text_behind objs s nul (most_of n (size - length f.before))) (λ g. Ok (ltb size (length f.before + length g.before + 1)))
      else Ok true

  pub append_stops : (k : UndefKind) → text_behind objs d (ends_at 0) size ≡ Err k → append_asks objs d s n size ≡ Err k
  append_stops k e = ap (λ r. and_then r behind_head) (nul_found objs d size (Err k) e)

  module _ (t : Text) (is : text_behind objs d (ends_at 0) size ≡ Ok (found (cells_from objs d 0) t)) (short : IsShort objs d size t) (e : is_some t.stop ≡ true) where
    second : append_asks objs d s n size
        ≡ and_then (text_behind objs s nul (most_of n (size - t.len))) (λ g. Ok (ltb size (t.len + length g.before + 1)))
    second = ap (λ r. and_then r behind_head) (nul_found objs d size (Ok (found (cells_from objs d 0) t)) is)
        ∙ ap (λ b. if b
        then and_then (text_behind objs s nul (most_of n (size - length (found (cells_from objs d 0) t).before)))
        (λ g. Ok (ltb size (length (found (cells_from objs d 0) t).before + length g.before + 1)))
        else Ok true) e
        ∙ ap (λ k. and_then (text_behind objs s nul (most_of n (size - k))) (λ g. Ok (ltb size (k + length g.before + 1))))
        (length_found (cells_from objs d 0) t short.inside)

    pub second_stops : (most : ℕ) (k : UndefKind) → most ≡ most_of n (size - t.len) → text_behind objs s (ends_at 0) most ≡ Err k
        → append_asks objs d s n size ≡ Err k
    second_stops most k m f = second
        ∙ ap (λ l. and_then (text_behind objs s nul l) (λ g. Ok (ltb size (t.len + length g.before + 1)))) (sym m)
        ∙ ap (λ r. and_then r (λ g. Ok (ltb size (t.len + length g.before + 1)))) (nul_found objs s most (Err k) f)

    pub second_ends : (most : ℕ) (u : Text) → most ≡ most_of n (size - t.len)
        → text_behind objs s (ends_at 0) most ≡ Ok (found (cells_from objs s 0) u) → IsShort objs s most u
        → append_asks objs d s n size ≡ Ok (ltb size (t.len + u.len + 1))
    second_ends most u m f small = second
        ∙ ap (λ l. and_then (text_behind objs s nul l) (λ g. Ok (ltb size (t.len + length g.before + 1)))) (sym m)
        ∙ ap (λ r. and_then r (λ g. Ok (ltb size (t.len + length g.before + 1)))) (nul_found objs s most (Ok (found (cells_from objs s 0) u)) f)
        ∙ ap (λ k. Ok (ltb size (t.len + k + 1))) (length_found (cells_from objs s 0) u small.inside)
