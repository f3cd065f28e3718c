-- Calls on arguments that have their types.
use Rattle.std.proofs.Common.{◌≡◌, ℕ, suc, Bool, true, false, List, [], ◌∷◌, Result, Ok, Err, refl, sym, ap, ◌∙◌, subst}
use Rattle.std.specs.List.{list_any}
use Rattle.c_library.specs.Library.{row_of}
use Rattle.c_library.specs.declared.functions.LibFn.{LibFn}
use Rattle.c_library.specs.declared.functions.LibType.{LibType}
use Rattle.run_meaning.specs.Worlds.{World}
use Rattle.library_meaning.specs.Rows.{Row, Answer, run}
use Rattle.object_meaning.specs.LibraryCalls.{given_by, number_at}
use Rattle.object_meaning.specs.Objects.{Object}
use Rattle.object_meaning.specs.OnObjects.{ObjectStop, is_missing, on_objects, operand, pointer_at, value_of}
use Rattle.object_meaning.specs.declared.values.PtrValue.{PtrValue}
use Rattle.object_meaning.specs.declared.values.Value.{Value}
use Rattle.object_meaning.specs.declared.values.Value.TheVariants as value
use Rattle.src_lib.specs.Acts.{DidBy, typed_list, typed_value}
use Rattle.src_lib.specs.Does.{Does}
use Rattle.src_lib.specs.Requests.{all_fit, fits_type, is_number, is_typed}
use Rattle.src_lib.specs.declared.ends.Stop.{Stop}
use Rattle.src_lib.proofs.Asking.{both_true, none_true}

value_is : (number : Bool) (v : Value) → fits_type number v ≡ true → is_missing v ≡ false → v ≡ typed_value number v
value_is true (value.Int n) h m = refl
value_is true (value.Pointer p) h m = absurd (cc)
value_is false (value.Int n) h m = absurd (cc)
value_is false (value.Pointer p) h m = refl
value_is number value.Uninit h m = absurd (cc)
value_is number value.Nothing h m = absurd (cc)

behind_first : (ts : List LibType) (v : Value) (vs : List Value) (i : ℕ) → typed_list ts (v ∷ vs) (suc i) ≡ typed_list ts vs i
behind_first [] v vs i = refl
behind_first (t ∷ ts) v vs i = ap (λ xs. typed_value (is_number t) (operand vs i) ∷ xs) (behind_first ts v vs (suc i))

list_is : (ts : List LibType) (args : List Value) → all_fit ts false args ≡ true → list_any is_missing args ≡ false → args ≡ typed_list ts args 0
list_is [] [] h m = refl
list_is [] (v ∷ vs) h m = absurd (cc)
list_is (t ∷ ts) [] h m = absurd (cc)
list_is (t ∷ ts) (v ∷ vs) h m =
    ap (λ x. x ∷ vs) (value_is (is_number t) v (both_true _ (all_fit ts false vs) h).0 (none_true (is_missing v) _ m).0)
    ∙ ap (λ xs. typed_value (is_number t) v ∷ xs)
    (list_is ts vs (both_true (fits_type (is_number t) v) _ h).1 (none_true (is_missing v) _ m).1 ∙ sym (behind_first ts v vs 0))

pub typed_is : (f : LibFn) (args : List Value) → (row_of f).variadic ≡ false → is_typed f args ≡ true → list_any is_missing args ≡ false
    → args ≡ typed_list (row_of f).parameters args 0
typed_is f args e h m = list_is (row_of f).parameters args (subst (λ b. all_fit (row_of f).parameters b args ≡ true) e h) m

-- a function that gives what its row gives
did_by : (f : LibFn) (args : List Value) (w : World) (r : Result (Answer (List Object)) ObjectStop) (old new : List Object)
    (result : Result Value Stop) → ((v : Value) → given_by (row_of f).gives v ≡ v) → Does args w r old new result → DidBy f args w r old new result
did_by f args w (Ok a) old new (Ok v) same h = (h.0 ∙ sym (same (value_of args a.given)), h.1, h.2)
did_by f args w (Ok a) old new (Err stop) same h = h
did_by f args w (Err e) old new (Ok v) same h = h
did_by f args w (Err e) old new (Err stop) same h = h

pub does_by : (f : LibFn) (args shape : List Value) (w : World) (row : Row) (old new : List Object) (result : Result Value Stop)
    → args ≡ shape → ((v : Value) → given_by (row_of f).gives v ≡ v) → Does shape w (run (on_objects shape) row old w) old new result
    → DidBy f args w (run (on_objects args) row old w) old new result
does_by f args shape w row old new result e same h =
    did_by f args w (run (on_objects args) row old w) old new result same
    (subst (λ xs. Does xs w (run (on_objects xs) row old w) old new result) (sym e) h)

-- a function of type void
void_by : (f : LibFn) (args : List Value) (w : World) (r : Result (Answer (List Object)) ObjectStop) (old new : List Object) (v : Value)
    → ((x : Value) → given_by (row_of f).gives x ≡ value.Nothing) → Does args w r old new (Ok v) → DidBy f args w r old new (Ok value.Nothing)
void_by f args w (Ok a) old new v none h = (sym (none (value_of args a.given)), h.1, h.2)
void_by f args w (Err e) old new v none h = absurd h

pub gives_nothing : (f : LibFn) (args shape : List Value) (w : World) (row : Row) (old new : List Object) (v : Value) → args ≡ shape
    → ((x : Value) → given_by (row_of f).gives x ≡ value.Nothing) → Does shape w (run (on_objects shape) row old w) old new (Ok v)
    → DidBy f args w (run (on_objects args) row old w) old new (Ok value.Nothing)
gives_nothing f args shape w row old new v e none h =
    void_by f args w (run (on_objects args) row old w) old new v none
    (subst (λ xs. Does xs w (run (on_objects xs) row old w) old new (Ok v)) (sym e) h)

pub stops_so : (f : LibFn) (args shape : List Value) (w : World) (row : Row) (old new : List Object) (stop : Stop) → args ≡ shape
    → Does shape w (run (on_objects shape) row old w) old new (Err stop)
    → DidBy f args w (run (on_objects args) row old w) old new (Err stop)
stops_so f args shape w row old new stop e h =
    stopped (run (on_objects args) row old w)
    (subst (λ xs. Does xs w (run (on_objects xs) row old w) old new (Err stop)) (sym e) h)
  where
    stopped : (r : Result (Answer (List Object)) ObjectStop) → Does args w r old new (Err stop) → DidBy f args w r old new (Err stop)
    stopped (Ok a) k = k
    stopped (Err x) k = k

-- ---- the shapes of arguments, as code takes them apart

module _ (args : List Value) where
  pub two_and_count : (p q : PtrValue) (n : ℕ) → p ≡ pointer_at args 0 → q ≡ pointer_at args 1 → n ≡ number_at args 2
      → args ≡ value.Pointer (pointer_at args 0) ∷ value.Pointer (pointer_at args 1) ∷ value.Int (number_at args 2) ∷ []
      → args ≡ value.Pointer p ∷ value.Pointer q ∷ value.Int n ∷ []
  two_and_count p q n e f g h = h ∙ ap (λ x. value.Pointer x ∷ value.Pointer (pointer_at args 1) ∷ value.Int (number_at args 2) ∷ []) (sym e)
      ∙ ap (λ x. value.Pointer p ∷ value.Pointer x ∷ value.Int (number_at args 2) ∷ []) (sym f)
      ∙ ap (λ x. value.Pointer p ∷ value.Pointer q ∷ value.Int x ∷ []) (sym g)

  pub one_and_counts : (p : PtrValue) (m n : ℕ) → p ≡ pointer_at args 0 → m ≡ number_at args 1 → n ≡ number_at args 2
      → args ≡ value.Pointer (pointer_at args 0) ∷ value.Int (number_at args 1) ∷ value.Int (number_at args 2) ∷ []
      → args ≡ value.Pointer p ∷ value.Int m ∷ value.Int n ∷ []
  one_and_counts p m n e f g h = h ∙ ap (λ x. value.Pointer x ∷ value.Int (number_at args 1) ∷ value.Int (number_at args 2) ∷ []) (sym e)
      ∙ ap (λ x. value.Pointer p ∷ value.Int x ∷ value.Int (number_at args 2) ∷ []) (sym f)
      ∙ ap (λ x. value.Pointer p ∷ value.Int m ∷ value.Int x ∷ []) (sym g)

  pub two_pointers : (p q : PtrValue) → p ≡ pointer_at args 0 → q ≡ pointer_at args 1
      → args ≡ value.Pointer (pointer_at args 0) ∷ value.Pointer (pointer_at args 1) ∷ [] → args ≡ value.Pointer p ∷ value.Pointer q ∷ []
  two_pointers p q e f h = h ∙ ap (λ x. value.Pointer x ∷ value.Pointer (pointer_at args 1) ∷ []) (sym e)
      ∙ ap (λ x. value.Pointer p ∷ value.Pointer x ∷ []) (sym f)

  pub one_and_count : (p : PtrValue) (n : ℕ) → p ≡ pointer_at args 0 → n ≡ number_at args 1
      → args ≡ value.Pointer (pointer_at args 0) ∷ value.Int (number_at args 1) ∷ [] → args ≡ value.Pointer p ∷ value.Int n ∷ []
  one_and_count p n e f h = h ∙ ap (λ x. value.Pointer x ∷ value.Int (number_at args 1) ∷ []) (sym e)
      ∙ ap (λ x. value.Pointer p ∷ value.Int x ∷ []) (sym f)

  pub one_pointer : (p : PtrValue) → p ≡ pointer_at args 0 → args ≡ value.Pointer (pointer_at args 0) ∷ [] → args ≡ value.Pointer p ∷ []
  one_pointer p e h = h ∙ ap (λ x. value.Pointer x ∷ []) (sym e)
