-- The rows have numbers and names of their own.
use Rattle.std.proofs.Common.{◌≡◌, ℕ, ◌+◌, ◌<◌, ◌≤◌, List, Bool, true, false, Option, None, Some, refl, sym, ◌∙◌, ap, arith}
use Rattle.std.specs.Prelude.{slice_get, find}
use Rattle.std.specs.Str.{bytes_eq}
use Rattle.c_library.specs.declared.functions.LibFn.{LibFn}
use Rattle.c_library.specs.declared.functions.LibFn.TheVariants as fn
use Rattle.c_library.specs.Library.{row_of, library, host_number, call_of}

same : {A : Type 0} {x y : A} → ◌≡◌ {A = Option A} (Some x) (Some y) → x ≡ y
same e = cc

function_named : List ℕ → Option LibFn
function_named name = find (λ f. bytes_eq (row_of f).name name) library

-- the search over all names finds each function by its own name
by_name : (f : LibFn) → function_named (row_of f).name ≡ Some f
unfolding function_named
by_name fn.Exit = refl
by_name fn.Abort = refl
by_name fn.Malloc = refl
by_name fn.Calloc = refl
by_name fn.Realloc = refl
by_name fn.Free = refl
by_name fn.Memcpy = refl
by_name fn.Memmove = refl
by_name fn.Mempcpy = refl
by_name fn.Memset = refl
by_name fn.Bzero = refl
by_name fn.ExplicitBzero = refl
by_name fn.Memcmp = refl
by_name fn.Strcpy = refl
by_name fn.Stpcpy = refl
by_name fn.Strncpy = refl
by_name fn.Strcat = refl
by_name fn.Strncat = refl
by_name fn.Strlen = refl
by_name fn.Strcmp = refl
by_name fn.Strchr = refl
by_name fn.Printf = refl
by_name fn.Puts = refl
by_name fn.Putchar = refl
by_name fn.Dprintf = refl
by_name fn.Sprintf = refl
by_name fn.Snprintf = refl
by_name fn.Read = refl
by_name fn.Write = refl
by_name fn.Getchar = refl
by_name fn.Note = refl

pub named : (f g : LibFn) → (row_of f).name ≡ (row_of g).name → f ≡ g
named f g e = same (sym (by_name f) ∙ ap function_named e ∙ by_name g)

pub numbered : (f : LibFn) → slice_get library (row_of f).number ≡ Some f
numbered fn.Exit = refl
numbered fn.Abort = refl
numbered fn.Malloc = refl
numbered fn.Calloc = refl
numbered fn.Realloc = refl
numbered fn.Free = refl
numbered fn.Memcpy = refl
numbered fn.Memmove = refl
numbered fn.Mempcpy = refl
numbered fn.Memset = refl
numbered fn.Bzero = refl
numbered fn.ExplicitBzero = refl
numbered fn.Memcmp = refl
numbered fn.Strcpy = refl
numbered fn.Stpcpy = refl
numbered fn.Strncpy = refl
numbered fn.Strcat = refl
numbered fn.Strncat = refl
numbered fn.Strlen = refl
numbered fn.Strcmp = refl
numbered fn.Strchr = refl
numbered fn.Printf = refl
numbered fn.Puts = refl
numbered fn.Putchar = refl
numbered fn.Dprintf = refl
numbered fn.Sprintf = refl
numbered fn.Snprintf = refl
numbered fn.Read = refl
numbered fn.Write = refl
numbered fn.Getchar = refl
numbered fn.Note = refl

below : (f : LibFn) → (row_of f).number < 31
below fn.Exit = omega arith
below fn.Abort = omega arith
below fn.Malloc = omega arith
below fn.Calloc = omega arith
below fn.Realloc = omega arith
below fn.Free = omega arith
below fn.Memcpy = omega arith
below fn.Memmove = omega arith
below fn.Mempcpy = omega arith
below fn.Memset = omega arith
below fn.Bzero = omega arith
below fn.ExplicitBzero = omega arith
below fn.Memcmp = omega arith
below fn.Strcpy = omega arith
below fn.Stpcpy = omega arith
below fn.Strncpy = omega arith
below fn.Strcat = omega arith
below fn.Strncat = omega arith
below fn.Strlen = omega arith
below fn.Strcmp = omega arith
below fn.Strchr = omega arith
below fn.Printf = omega arith
below fn.Puts = omega arith
below fn.Putchar = omega arith
below fn.Dprintf = omega arith
below fn.Sprintf = omega arith
below fn.Snprintf = omega arith
below fn.Read = omega arith
below fn.Write = omega arith
below fn.Getchar = omega arith
below fn.Note = omega arith

by_number : (f g : LibFn) → (row_of f).number ≡ (row_of g).number → f ≡ g
by_number f g e = same (sym (numbered f) ∙ ap (slice_get library) e ∙ numbered g)

pub one_form : (f g : LibFn) (a b : Bool) → host_number f a ≡ host_number g b → (f ≡ g) × (a ≡ b)
one_form f g true true e = (by_number f g (omega arith), refl)
one_form f g false false e = (by_number f g (omega arith), refl)
one_form f g true false e = let low = below g in absurd (omega arith)
one_form f g false true e = let low = below f in absurd (omega arith)

-- the number of a form names it
pub called : (f : LibFn) (a : Bool) → call_of (host_number f a) ≡ Some (f, a)
called fn.Exit true = refl
called fn.Exit false = refl
called fn.Abort true = refl
called fn.Abort false = refl
called fn.Malloc true = refl
called fn.Malloc false = refl
called fn.Calloc true = refl
called fn.Calloc false = refl
called fn.Realloc true = refl
called fn.Realloc false = refl
called fn.Free true = refl
called fn.Free false = refl
called fn.Memcpy true = refl
called fn.Memcpy false = refl
called fn.Memmove true = refl
called fn.Memmove false = refl
called fn.Mempcpy true = refl
called fn.Mempcpy false = refl
called fn.Memset true = refl
called fn.Memset false = refl
called fn.Bzero true = refl
called fn.Bzero false = refl
called fn.ExplicitBzero true = refl
called fn.ExplicitBzero false = refl
called fn.Memcmp true = refl
called fn.Memcmp false = refl
called fn.Strcpy true = refl
called fn.Strcpy false = refl
called fn.Stpcpy true = refl
called fn.Stpcpy false = refl
called fn.Strncpy true = refl
called fn.Strncpy false = refl
called fn.Strcat true = refl
called fn.Strcat false = refl
called fn.Strncat true = refl
called fn.Strncat false = refl
called fn.Strlen true = refl
called fn.Strlen false = refl
called fn.Strcmp true = refl
called fn.Strcmp false = refl
called fn.Strchr true = refl
called fn.Strchr false = refl
called fn.Printf true = refl
called fn.Printf false = refl
called fn.Puts true = refl
called fn.Puts false = refl
called fn.Putchar true = refl
called fn.Putchar false = refl
called fn.Dprintf true = refl
called fn.Dprintf false = refl
called fn.Sprintf true = refl
called fn.Sprintf false = refl
called fn.Snprintf true = refl
called fn.Snprintf false = refl
called fn.Read true = refl
called fn.Read false = refl
called fn.Write true = refl
called fn.Write false = refl
called fn.Getchar true = refl
called fn.Getchar false = refl
called fn.Note true = refl
called fn.Note false = refl
