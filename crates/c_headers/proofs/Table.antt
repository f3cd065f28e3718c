-- The rows have names and numbers of their own, and each function stands in one of them.
use Rattle.std.proofs.Common.{◌≡◌, ◌≢◌, ℕ, zero, suc, nat_eq, List, [], ◌∷◌, Bool}
use Rattle.std.proofs.Common.{true, false, Option, Some, refl, sym, ◌∙◌, ap, subst, arith}
use Rattle.std.proofs.lemmas.List.Elements.{All-contains, All-from_recursion}
use Rattle.std.proofs.lemmas.Option.{same_Some}
use Rattle.std.proofs.lemmas.Slice.Eq.{bytes_eq-Decides}
use Rattle.std.specs.Cmp.Lexicographic.{same_text}
use Rattle.std.specs.List.{list_any}
use Rattle.std.specs.Prelude.{cond, find, slice_get, Contains, All}
use Rattle.std.specs.Str.{bytes_eq}
use Rattle.c_library.specs.declared.functions.LibFn.{LibFn}
use Rattle.c_library.specs.declared.functions.LibFn.TheVariants as fn
use Rattle.c_library.specs.Library.{row_of}
use Rattle.c_library.proofs.Table.{named}
use Rattle.c_headers.specs.declared.headers.HeaderId.{HeaderId}
use Rattle.c_headers.specs.declared.headers.HeaderId.TheVariants as header
use Rattle.c_headers.specs.Headers.{header_row, header_name, header_number, header_named, headers, function_named, IsDeclared, HasHeader}

pub known : (h : HeaderId) → header_named (header_name h) ≡ Some h
known header.String = refl
known header.Strings = refl
known header.Stdio = refl
known header.Stdlib = refl
known header.Stddef = refl
known header.Stdint = refl
known header.Unistd = refl

pub numbered : (h : HeaderId) → slice_get headers (header_number h) ≡ Some h
numbered header.String = refl
numbered header.Strings = refl
numbered header.Stdio = refl
numbered header.Stdlib = refl
numbered header.Stddef = refl
numbered header.Stdint = refl
numbered header.Unistd = refl

pub by_number : (g h : HeaderId) → header_number g ≡ header_number h → g ≡ h
by_number g h e = same_Some g h (sym (numbered g) ∙ ap (slice_get headers) e ∙ numbered h)

-- what a search among headers finds has the name
header_by_test : (name : List ℕ) (k h : HeaderId) (rest : Option HeaderId) (b : Bool) → b ≡ bytes_eq (header_name h) name →
    cond b (Some h) rest ≡ Some k → (rest ≡ Some k → name ≡ header_name k) → name ≡ header_name k
header_by_test name k h rest true is e later = sym (same_text (header_name h) name is) ∙ ap (λ x. header_name x) (same_Some h k e)
header_by_test name k h rest false is e later = later e

found_header : (name : List ℕ) (k : HeaderId) (hs : List HeaderId) → find (λ h. bytes_eq (header_name h) name) hs ≡ Some k
    → name ≡ header_name k
found_header name k [] e = cc
found_header name k (h ∷ hs) e = header_by_test name k h _ _ refl e (λ rest. found_header name k hs rest)

pub only : (name : List ℕ) (k : HeaderId) → header_named name ≡ Some k → name ≡ header_name k
only name k e = found_header name k headers e

-- ---- one header declares a function

has : List LibFn → LibFn → Bool
has functions f = list_any (λ g. nat_eq (row_of g).number (row_of f).number) functions

home : LibFn → Option HeaderId
home f = find (λ h. has (header_row h).functions f) headers

all_home : (h : HeaderId) → All (λ f. home f ≡ Some h) (header_row h).functions
unfolding home has
all_home header.String = All-from_recursion (λ f. home f ≡ Some header.String) (header_row header.String).functions
    (refl, (refl, (refl, (refl, (refl, (refl, (refl, (refl, (refl, (refl, (refl, (refl, (refl, (refl, tt))))))))))))))
all_home header.Strings = All-from_recursion (λ f. home f ≡ Some header.Strings) (header_row header.Strings).functions (refl, tt)
all_home header.Stdio = All-from_recursion (λ f. home f ≡ Some header.Stdio) (header_row header.Stdio).functions
    (refl, (refl, (refl, (refl, (refl, (refl, (refl, tt)))))))
all_home header.Stdlib = All-from_recursion (λ f. home f ≡ Some header.Stdlib) (header_row header.Stdlib).functions
    (refl, (refl, (refl, (refl, (refl, (refl, tt))))))
all_home header.Stddef = All-from_recursion (λ f. home f ≡ Some header.Stddef) (header_row header.Stddef).functions tt
all_home header.Stdint = All-from_recursion (λ f. home f ≡ Some header.Stdint) (header_row header.Stdint).functions tt
all_home header.Unistd = All-from_recursion (λ f. home f ≡ Some header.Unistd) (header_row header.Unistd).functions (refl, (refl, tt))

at_home : (h : HeaderId) (f : LibFn) → Contains (header_row h).functions f → home f ≡ Some h
at_home h f c = All-contains (λ f. home f ≡ Some h) (header_row h).functions f (all_home h) c

pub one : (f : LibFn) (g h : HeaderId) → Contains (header_row g).functions f → Contains (header_row h).functions f → g ≡ h
one f g h a b = same_Some g h (sym (at_home g f a) ∙ at_home h f b)

pub some : (f : LibFn) → f ≢ fn.Note → HasHeader f
some fn.Exit n = (header.Stdlib, (4, omega arith, refl))
some fn.Abort n = (header.Stdlib, (5, omega arith, refl))
some fn.Malloc n = (header.Stdlib, (0, omega arith, refl))
some fn.Calloc n = (header.Stdlib, (1, omega arith, refl))
some fn.Realloc n = (header.Stdlib, (2, omega arith, refl))
some fn.Free n = (header.Stdlib, (3, omega arith, refl))
some fn.Memcpy n = (header.String, (0, omega arith, refl))
some fn.Memmove n = (header.String, (1, omega arith, refl))
some fn.Mempcpy n = (header.String, (2, omega arith, refl))
some fn.Memset n = (header.String, (3, omega arith, refl))
some fn.Bzero n = (header.Strings, (0, omega arith, refl))
some fn.ExplicitBzero n = (header.String, (4, omega arith, refl))
some fn.Memcmp n = (header.String, (5, omega arith, refl))
some fn.Strcpy n = (header.String, (6, omega arith, refl))
some fn.Stpcpy n = (header.String, (7, omega arith, refl))
some fn.Strncpy n = (header.String, (8, omega arith, refl))
some fn.Strcat n = (header.String, (9, omega arith, refl))
some fn.Strncat n = (header.String, (10, omega arith, refl))
some fn.Strlen n = (header.String, (11, omega arith, refl))
some fn.Strcmp n = (header.String, (12, omega arith, refl))
some fn.Strchr n = (header.String, (13, omega arith, refl))
some fn.Printf n = (header.Stdio, (0, omega arith, refl))
some fn.Puts n = (header.Stdio, (4, omega arith, refl))
some fn.Putchar n = (header.Stdio, (5, omega arith, refl))
some fn.Dprintf n = (header.Stdio, (1, omega arith, refl))
some fn.Sprintf n = (header.Stdio, (2, omega arith, refl))
some fn.Snprintf n = (header.Stdio, (3, omega arith, refl))
some fn.Read n = (header.Unistd, (0, omega arith, refl))
some fn.Write n = (header.Unistd, (1, omega arith, refl))
some fn.Getchar n = (header.Stdio, (6, omega arith, refl))
some fn.Note n = absurd (n refl)

false_true : ◌≡◌ {A = Bool} false true → ⊥
false_true e = cc

itself : (xs ys : List ℕ) → xs ≡ ys → bytes_eq xs ys ≡ true
itself xs ys e = (bytes_eq-Decides xs ys).1 e

-- ---- what a search among functions finds

function_by_test : (name : List ℕ) (f g : LibFn) (rest : Option LibFn) (b : Bool) (gs : List LibFn) → b ≡ bytes_eq (row_of g).name name →
    cond b (Some g) rest ≡ Some f → (rest ≡ Some f → Contains gs f × ((row_of f).name ≡ name))
    → Contains (g ∷ gs) f × ((row_of f).name ≡ name)
function_by_test name f g rest true gs is e later =
    let same = same_Some g f e in
    ((0, omega arith, same), ap (λ x. (row_of x).name) (sym same) ∙ same_text (row_of g).name name is)
function_by_test name f g rest false gs is e later = let l = later e in ((suc l.0.0, omega (arith, l.0.1), l.0.2), l.1)

pub found : (name : List ℕ) (f : LibFn) (fs : List LibFn) → function_named fs name ≡ Some f → Contains fs f × ((row_of f).name ≡ name)
found name f [] e = cc
found name f (g ∷ gs) e = function_by_test name f g _ _ gs refl e (λ rest. found name f gs rest)

-- and it finds what stands there, since no two functions have one name
finds_by_test : (name : List ℕ) (f g : LibFn) (gs : List LibFn) (b : Bool) → b ≡ bytes_eq (row_of g).name name
    → Contains (g ∷ gs) f → (row_of f).name ≡ name →
    (Contains gs f → function_named gs name ≡ Some f) → cond b (Some g) (function_named gs name) ≡ Some f
finds_by_test name f g gs true is c n later = ap Some (named g f (same_text (row_of g).name name is ∙ sym n))
finds_by_test name f g gs false is (zero, lt, e) n later =
    absurd (false_true (is ∙ itself (row_of g).name name (ap (λ x. (row_of x).name) e ∙ n)))
finds_by_test name f g gs false is (suc i, lt, e) n later = later (i, omega (arith, lt), e)

pub finds : (name : List ℕ) (f : LibFn) (fs : List LibFn) → Contains fs f → (row_of f).name ≡ name → function_named fs name ≡ Some f
finds name f [] c n = absurd (omega (arith, c.1))
finds name f (g ∷ gs) c n = finds_by_test name f g gs _ refl c n (λ rest. finds name f gs rest n)

number_at : (n : ℕ) (h : HeaderId) → slice_get headers n ≡ Some h → header_number h ≡ n
number_at zero h e = ap (λ x. header_number x) (sym (same_Some header.String h e))
number_at (suc zero) h e = ap (λ x. header_number x) (sym (same_Some header.Strings h e))
number_at (suc (suc zero)) h e = ap (λ x. header_number x) (sym (same_Some header.Stdio h e))
number_at (suc (suc (suc zero))) h e = ap (λ x. header_number x) (sym (same_Some header.Stdlib h e))
number_at (suc (suc (suc (suc zero)))) h e = ap (λ x. header_number x) (sym (same_Some header.Stddef h e))
number_at (suc (suc (suc (suc (suc zero))))) h e = ap (λ x. header_number x) (sym (same_Some header.Stdint h e))
number_at (suc (suc (suc (suc (suc (suc zero)))))) h e = ap (λ x. header_number x) (sym (same_Some header.Unistd h e))
number_at (suc (suc (suc (suc (suc (suc (suc n))))))) h e = cc

pub declared : (h : HeaderId) (name : List ℕ) (n : ℕ) (r : Option LibFn) → slice_get headers n ≡ Some h
    → r ≡ function_named (header_row h).functions name →
    (f : LibFn) → (r ≡ Some f → IsDeclared f name n) × (IsDeclared f name n → r ≡ Some f)
declared h name n r at is f = (
  (λ e. let it = found name f (header_row h).functions (sym is ∙ e) in
      record { header = h; numbered = number_at n h at; declared = it.0; named = it.1 }),
  (λ d. let same = same_Some d.header h (sym (numbered d.header) ∙ ap (slice_get headers) d.numbered ∙ at) in
      is ∙ finds name f (header_row h).functions (subst (λ x. Contains (header_row x).functions f) same d.declared) d.named),
)
