-- Calls behind a check that exceeds, and behind one that doesn't.
use Rattle.std.proofs.Common.{◌≡◌, ℕ, Bool, true, false, ltb, List, [], ◌∷◌, Option, None, Some, Result, Ok, Err, refl, sym, ap, ◌∙◌, subst}
use Rattle.std.specs.Prelude.{is_some}
use Rattle.std.specs.Option.{option_map}
use Rattle.std.specs.List.{list_any}
use Rattle.c_library.specs.declared.functions.LibFn.{LibFn}
use Rattle.c_library.specs.declared.functions.LibFn.TheVariants as fn
use Rattle.fc_base.specs.declared.undefined.UndefKind.{UndefKind}
use Rattle.run_meaning.specs.Worlds.{World}
use Rattle.library_meaning.specs.Rows.{Row, Point, Answer, run}
use Rattle.library_meaning.specs.Scan.{and_then}
use Rattle.library_meaning.specs.Table.{no_limit, pointers}
use Rattle.object_meaning.specs.LibraryCalls.{checked_row, limit, number_at, passed_to, row_for, unchecked}
use Rattle.object_meaning.specs.Objects.{Object}
use Rattle.object_meaning.specs.OnObjects as on
use Rattle.object_meaning.specs.OnObjects.{ObjectStop, is_missing, on_objects, pointer_at, unless_undefined}
use Rattle.object_meaning.specs.declared.values.Value.{Value}
use Rattle.object_meaning.specs.declared.values.Value.TheVariants.{Int, Pointer}
use Rattle.src_lib.specs.Acts.{DidBy, DoesBy, is_silent, looked}
use Rattle.src_lib.specs.Reaches.{pointed}
use Rattle.src_lib.specs.Requests.{is_typed}
use Rattle.src_lib.specs.declared.ends.Stop.{Stop}
use Rattle.src_lib.specs.declared.ends.Stop.TheVariants as stops
use Rattle.src_lib.proofs.Acting.{typed_is}
use Rattle.src_lib.proofs.Appends.{done_first, looked_for, point_row, second_is, undefined_first}

-- how many arguments follow a format says nothing
row_same : (f : LibFn) (passed size : ℕ) → is_silent f ≡ true → row_for f passed size ≡ row_for f 0 size
row_same fn.Exit passed size e = absurd (cc)
row_same fn.Abort passed size e = absurd (cc)
row_same fn.Malloc passed size e = absurd (cc)
row_same fn.Calloc passed size e = absurd (cc)
row_same fn.Realloc passed size e = absurd (cc)
row_same fn.Free passed size e = absurd (cc)
row_same fn.Memcpy passed size e = refl
row_same fn.Memmove passed size e = refl
row_same fn.Mempcpy passed size e = refl
row_same fn.Memset passed size e = refl
row_same fn.Bzero passed size e = refl
row_same fn.ExplicitBzero passed size e = refl
row_same fn.Memcmp passed size e = refl
row_same fn.Strcpy passed size e = refl
row_same fn.Stpcpy passed size e = refl
row_same fn.Strncpy passed size e = refl
row_same fn.Strcat passed size e = refl
row_same fn.Strncat passed size e = refl
row_same fn.Strlen passed size e = refl
row_same fn.Strcmp passed size e = refl
row_same fn.Strchr passed size e = refl
row_same fn.Printf passed size e = absurd (cc)
row_same fn.Puts passed size e = absurd (cc)
row_same fn.Putchar passed size e = absurd (cc)
row_same fn.Dprintf passed size e = absurd (cc)
row_same fn.Sprintf passed size e = absurd (cc)
row_same fn.Snprintf passed size e = absurd (cc)
row_same fn.Read passed size e = absurd (cc)
row_same fn.Write passed size e = absurd (cc)
row_same fn.Getchar passed size e = absurd (cc)
row_same fn.Note passed size e = absurd (cc)

has_row : (f : LibFn) (passed size : ℕ) → is_silent f ≡ true → is_some (row_for f passed size) ≡ true
has_row fn.Exit passed size e = absurd (cc)
has_row fn.Abort passed size e = absurd (cc)
has_row fn.Malloc passed size e = absurd (cc)
has_row fn.Calloc passed size e = absurd (cc)
has_row fn.Realloc passed size e = absurd (cc)
has_row fn.Free passed size e = absurd (cc)
has_row fn.Memcpy passed size e = refl
has_row fn.Memmove passed size e = refl
has_row fn.Mempcpy passed size e = refl
has_row fn.Memset passed size e = refl
has_row fn.Bzero passed size e = refl
has_row fn.ExplicitBzero passed size e = refl
has_row fn.Memcmp passed size e = refl
has_row fn.Strcpy passed size e = refl
has_row fn.Stpcpy passed size e = refl
has_row fn.Strncpy passed size e = refl
has_row fn.Strcat passed size e = refl
has_row fn.Strncat passed size e = refl
has_row fn.Strlen passed size e = refl
has_row fn.Strcmp passed size e = refl
has_row fn.Strchr passed size e = refl
has_row fn.Printf passed size e = absurd (cc)
has_row fn.Puts passed size e = absurd (cc)
has_row fn.Putchar passed size e = absurd (cc)
has_row fn.Dprintf passed size e = absurd (cc)
has_row fn.Sprintf passed size e = absurd (cc)
has_row fn.Snprintf passed size e = absurd (cc)
has_row fn.Read passed size e = absurd (cc)
has_row fn.Write passed size e = absurd (cc)
has_row fn.Getchar passed size e = absurd (cc)
has_row fn.Note passed size e = absurd (cc)

module _ (args : List Value) (objs : List Object) (w : World) (missing : list_any is_missing args ≡ false) (row : Row) where
  -- two pointers that are looked at before a row
  two_looked : args ≡ Pointer (pointer_at args 0) ∷ Pointer (pointer_at args 1) ∷ []
      → run (on_objects args) (Point pointers pointers row) objs w
      ≡ and_then (unless_undefined (pointed objs (pointer_at args 0) (pointer_at args 1) true true)) (λ u. run (on_objects args) row objs w)
  two_looked e =
      let p = pointer_at args 0 in
      let q = pointer_at args 1 in
      subst (λ xs. run (on_objects xs) (Point pointers pointers row) objs w
      ≡ and_then (unless_undefined (pointed objs p q true true)) (λ u. run (on_objects xs) row objs w)) (sym e)
      (point_row [] p q objs pointers (pointed objs p q true true) (λ m. run (on_objects (Pointer p ∷ Pointer q ∷ [])) row m w)
      (looked_for [] p q objs true))

  count_looked : args ≡ Pointer (pointer_at args 0) ∷ Pointer (pointer_at args 1) ∷ Int (number_at args 2) ∷ []
      → run (on_objects args) (unchecked fn.Strncat row) objs w
      ≡ and_then (unless_undefined (pointed objs (pointer_at args 0) (pointer_at args 1) true (ltb 0 (number_at args 2))))
      (λ u. run (on_objects args) row objs w)
  count_looked e =
      let p = pointer_at args 0 in
      let q = pointer_at args 1 in
      let n = number_at args 2 in
      subst (λ xs. run (on_objects xs) (unchecked fn.Strncat row) objs w
      ≡ and_then (unless_undefined (pointed objs p q true (ltb 0 n))) (λ u. run (on_objects xs) row objs w)) (sym e)
      (ap (λ touched. run (on_objects (Pointer p ∷ Pointer q ∷ Int n ∷ [])) (Point pointers touched row) objs w) (sym (second_is n))
      ∙ point_row (Int n ∷ []) p q objs _ (pointed objs p q true (ltb 0 n))
      (λ m. run (on_objects (Pointer p ∷ Pointer q ∷ Int n ∷ [])) row m w) (looked_for (Int n ∷ []) p q objs (ltb 0 n)))

  look_row : (f : LibFn) → is_typed f args ≡ true → run (on_objects args) (unchecked f row) objs w
      ≡ and_then (unless_undefined (looked objs f args)) (λ u. run (on_objects args) row objs w)
  look_row fn.Exit h = refl
  look_row fn.Abort h = refl
  look_row fn.Malloc h = refl
  look_row fn.Calloc h = refl
  look_row fn.Realloc h = refl
  look_row fn.Free h = refl
  look_row fn.Memcpy h = refl
  look_row fn.Memmove h = refl
  look_row fn.Mempcpy h = refl
  look_row fn.Memset h = refl
  look_row fn.Bzero h = refl
  look_row fn.ExplicitBzero h = refl
  look_row fn.Memcmp h = refl
  look_row fn.Strcpy h = two_looked (typed_is fn.Strcpy args refl h missing)
  look_row fn.Stpcpy h = two_looked (typed_is fn.Stpcpy args refl h missing)
  look_row fn.Strncpy h = refl
  look_row fn.Strcat h = two_looked (typed_is fn.Strcat args refl h missing)
  look_row fn.Strncat h = count_looked (typed_is fn.Strncat args refl h missing)
  look_row fn.Strlen h = refl
  look_row fn.Strcmp h = refl
  look_row fn.Strchr h = refl
  look_row fn.Printf h = refl
  look_row fn.Puts h = refl
  look_row fn.Putchar h = refl
  look_row fn.Dprintf h = refl
  look_row fn.Sprintf h = refl
  look_row fn.Snprintf h = refl
  look_row fn.Read h = refl
  look_row fn.Write h = refl
  look_row fn.Getchar h = refl
  look_row fn.Note h = refl

module _ (f : LibFn) (args : List Value) (objs new : List Object) (w : World) (typed : is_typed f args ≡ true)
    (missing : list_any is_missing args ≡ false) where
  -- behind a check that exceeds
  loosened : (o : Option Row) (u : Unit {0}) (result : Result Value Stop) → looked objs f args ≡ Ok u → DoesBy f args w o objs new result
      → DoesBy f args w (option_map (unchecked f) o) objs new result
  loosened None u result e h = absurd h
  loosened (Some row) u result e h =
      subst (λ r. DidBy f args w r objs new result)
      (sym (look_row args objs w missing row f typed
      ∙ done_first (looked objs f args) u (λ v. run (on_objects args) row objs w) e)) h

  stopped : (r : Result (Answer (List Object)) ObjectStop) (k : UndefKind) → r ≡ Err (on.Undefined k) → DidBy f args w r objs objs (Err (stops.Undefined k))
  stopped (Ok a) k e = absurd (cc)
  stopped (Err x) k e = (sym (let same : x ≡ on.Undefined k = cc in same), refl)

  stops_loosened : (o : Option Row) (k : UndefKind) → is_some o ≡ true → looked objs f args ≡ Err k
      → DoesBy f args w (option_map (unchecked f) o) objs objs (Err (stops.Undefined k))
  stops_loosened None k some e = absurd (cc)
  stops_loosened (Some row) k some e =
      stopped (run (on_objects args) (unchecked f row) objs w) k
      (look_row args objs w missing row f typed ∙ undefined_first (looked objs f args) k (λ v. run (on_objects args) row objs w) e)

  pub within_size : (exceeds : Bool) (size : ℕ) (result : Result Value Stop) → is_silent f ≡ true → exceeds ≡ false → size ≡ limit f args objs
      → DoesBy f args w (row_for f 0 size) objs new result → DoesBy f args w (checked_row exceeds f args objs) objs new result
  within_size exceeds size result silent e s h =
      subst (λ b. DoesBy f args w (checked_row b f args objs) objs new result) (sym e)
      (subst (λ o. DoesBy f args w o objs new result)
      (ap (row_for f 0) s ∙ sym (row_same f (passed_to f args) (limit f args objs) silent)) h)

  pub past_size : (exceeds : Bool) (u : Unit {0}) (result : Result Value Stop) → is_silent f ≡ true → exceeds ≡ true → looked objs f args ≡ Ok u
      → DoesBy f args w (row_for f 0 no_limit) objs new result → DoesBy f args w (checked_row exceeds f args objs) objs new result
  past_size exceeds u result silent e look h =
      subst (λ b. DoesBy f args w (checked_row b f args objs) objs new result) (sym e)
      (loosened (row_for f (passed_to f args) no_limit) u result look
      (subst (λ o. DoesBy f args w o objs new result) (sym (row_same f (passed_to f args) no_limit silent)) h))

  pub past_stops : (exceeds : Bool) (k : UndefKind) → is_silent f ≡ true → exceeds ≡ true → looked objs f args ≡ Err k
      → DoesBy f args w (checked_row exceeds f args objs) objs objs (Err (stops.Undefined k))
  past_stops exceeds k silent e look =
      subst (λ b. DoesBy f args w (checked_row b f args objs) objs objs (Err (stops.Undefined k))) (sym e)
      (stops_loosened (row_for f (passed_to f args) no_limit) k (has_row f (passed_to f args) no_limit silent) look)
