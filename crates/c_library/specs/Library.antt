-- The library functions: their types, their numbers, and their checked forms.
-- Names and types: C11 7.21, 7.22 and 7.24; POSIX (bzero, dprintf, read, stpcpy, write); the GNU C library (explicit_bzero,
-- mempcpy). Checked forms and their modes: the feature test macro _FORTIFY_SOURCE and the fortified functions of the GNU C
-- library, as `__memcpy_chk`. Numbers: this project's own.
use Rattle.std.specs.Prelude.{ℕ, ◌+◌, Bool, true, false, if◌then◌else◌, List, [], ◌∷◌, codes, Option, None, Some, option_map, ◌-◌, nat_le, cond, slice_get}
use Rattle.fc_base.specs.declared.levels.Mode.{Mode}
use Rattle.fc_base.specs.declared.levels.Mode.TheVariants.{M0, M1}
use Rattle.c_library.specs.declared.functions.CheckedForm.{CheckedForm}
use Rattle.c_library.specs.declared.functions.FunctionRow.{FunctionRow}
use Rattle.c_library.specs.declared.functions.LibFn.{LibFn}
use Rattle.c_library.specs.declared.functions.LibFn.TheVariants as fn
use Rattle.c_library.specs.declared.functions.LibType.{LibType}
use Rattle.c_library.specs.declared.functions.LibType.TheVariants.{Void, Int, Long, Size, VoidPointer, CharPointer}

-- A function's name; its number; its checked form, if it has one; the types of its parameters; whether further arguments
-- follow a format, which is then its last parameter; and the type that it gives.
pub record LibRow : Type 0 where
  pub name : List ℕ
  pub number : ℕ
  pub checked : Option CheckedForm
  pub parameters : List LibType
  pub variadic : Bool
  pub gives : LibType

abbrev pub row : List ℕ → ℕ → Option CheckedForm → List LibType → Bool → LibType → LibRow
row name number checked parameters variadic gives =
    record { name = name; number = number; checked = checked; parameters = parameters; variadic = variadic; gives = gives }

-- the checked form whose size is asked in this mode, of the argument at this place
abbrev pub sized : Mode → ℕ → Option CheckedForm
sized mode destination = Some (record { mode = mode; destination = destination })

-- the table, in the order of the numbers
abbrev pub row_of : LibFn → LibRow
-- C11 7.22.4.4: void exit(int status)
row_of fn.Exit = row (codes "exit") 0 None (Int ∷ []) false Void
-- C11 7.22.4.1: void abort(void)
row_of fn.Abort = row (codes "abort") 1 None [] false Void
-- C11 7.22.3.4: void *malloc(size_t size)
row_of fn.Malloc = row (codes "malloc") 2 None (Size ∷ []) false VoidPointer
-- C11 7.22.3.2: void *calloc(size_t members, size_t size)
row_of fn.Calloc = row (codes "calloc") 3 None (Size ∷ Size ∷ []) false VoidPointer
-- C11 7.22.3.5: void *realloc(void *block, size_t size)
row_of fn.Realloc = row (codes "realloc") 4 None (VoidPointer ∷ Size ∷ []) false VoidPointer
-- C11 7.22.3.3: void free(void *block)
row_of fn.Free = row (codes "free") 5 None (VoidPointer ∷ []) false Void
-- C11 7.24.2.1: void *memcpy(void *to, const void *from, size_t count)
row_of fn.Memcpy = row (codes "memcpy") 6 (sized M0 0) (VoidPointer ∷ VoidPointer ∷ Size ∷ []) false VoidPointer
-- C11 7.24.2.2: void *memmove(void *to, const void *from, size_t count)
row_of fn.Memmove = row (codes "memmove") 7 (sized M0 0) (VoidPointer ∷ VoidPointer ∷ Size ∷ []) false VoidPointer
-- glibc: void *mempcpy(void *to, const void *from, size_t count)
row_of fn.Mempcpy = row (codes "mempcpy") 8 (sized M0 0) (VoidPointer ∷ VoidPointer ∷ Size ∷ []) false VoidPointer
-- C11 7.24.6.1: void *memset(void *to, int byte, size_t count)
row_of fn.Memset = row (codes "memset") 9 (sized M0 0) (VoidPointer ∷ Int ∷ Size ∷ []) false VoidPointer
-- POSIX.1-2001: void bzero(void *to, size_t count)
row_of fn.Bzero = row (codes "bzero") 10 (sized M0 0) (VoidPointer ∷ Size ∷ []) false Void
-- glibc: void explicit_bzero(void *to, size_t count)
row_of fn.ExplicitBzero = row (codes "explicit_bzero") 11 (sized M0 0) (VoidPointer ∷ Size ∷ []) false Void
-- C11 7.24.4.1: int memcmp(const void *a, const void *b, size_t count)
row_of fn.Memcmp = row (codes "memcmp") 12 None (VoidPointer ∷ VoidPointer ∷ Size ∷ []) false Int
-- C11 7.24.2.3: char *strcpy(char *to, const char *from)
row_of fn.Strcpy = row (codes "strcpy") 13 (sized M1 0) (CharPointer ∷ CharPointer ∷ []) false CharPointer
-- POSIX: char *stpcpy(char *to, const char *from)
row_of fn.Stpcpy = row (codes "stpcpy") 14 (sized M1 0) (CharPointer ∷ CharPointer ∷ []) false CharPointer
-- C11 7.24.2.4: char *strncpy(char *to, const char *from, size_t count)
row_of fn.Strncpy = row (codes "strncpy") 15 (sized M1 0) (CharPointer ∷ CharPointer ∷ Size ∷ []) false CharPointer
-- C11 7.24.3.1: char *strcat(char *to, const char *from)
row_of fn.Strcat = row (codes "strcat") 16 (sized M1 0) (CharPointer ∷ CharPointer ∷ []) false CharPointer
-- C11 7.24.3.2: char *strncat(char *to, const char *from, size_t count)
row_of fn.Strncat = row (codes "strncat") 17 (sized M1 0) (CharPointer ∷ CharPointer ∷ Size ∷ []) false CharPointer
-- C11 7.24.6.3: size_t strlen(const char *text)
row_of fn.Strlen = row (codes "strlen") 18 None (CharPointer ∷ []) false Size
-- C11 7.24.4.2: int strcmp(const char *a, const char *b)
row_of fn.Strcmp = row (codes "strcmp") 19 None (CharPointer ∷ CharPointer ∷ []) false Int
-- C11 7.24.5.2: char *strchr(const char *text, int byte)
row_of fn.Strchr = row (codes "strchr") 20 None (CharPointer ∷ Int ∷ []) false CharPointer
-- C11 7.21.6.3: int printf(const char *format, ...)
row_of fn.Printf = row (codes "printf") 21 None (CharPointer ∷ []) true Int
-- C11 7.21.7.9: int puts(const char *text)
row_of fn.Puts = row (codes "puts") 22 None (CharPointer ∷ []) false Int
-- C11 7.21.7.8: int putchar(int byte)
row_of fn.Putchar = row (codes "putchar") 23 None (Int ∷ []) false Int
-- POSIX: int dprintf(int descriptor, const char *format, ...)
row_of fn.Dprintf = row (codes "dprintf") 24 None (Int ∷ CharPointer ∷ []) true Int
-- C11 7.21.6.6: int sprintf(char *to, const char *format, ...)
row_of fn.Sprintf = row (codes "sprintf") 25 (sized M1 0) (CharPointer ∷ CharPointer ∷ []) true Int
-- C11 7.21.6.5: int snprintf(char *to, size_t count, const char *format, ...)
row_of fn.Snprintf = row (codes "snprintf") 26 (sized M1 0) (CharPointer ∷ Size ∷ CharPointer ∷ []) true Int
-- POSIX: ssize_t read(int descriptor, void *to, size_t count)
row_of fn.Read = row (codes "read") 27 (sized M0 1) (Int ∷ VoidPointer ∷ Size ∷ []) false Long
-- POSIX: ssize_t write(int descriptor, const void *from, size_t count)
row_of fn.Write = row (codes "write") 28 None (Int ∷ VoidPointer ∷ Size ∷ []) false Long
-- C11 7.21.7.6: int getchar(void)
row_of fn.Getchar = row (codes "getchar") 29 None [] false Int
-- this project's own: the line that shows a size: its line, column, mode and value. No source can call it
row_of fn.Note = row (codes "note") 30 None (Size ∷ Size ∷ Size ∷ Size ∷ []) false Void

-- all of them, in the order of their numbers
abbrev pub library : List LibFn
library =
    fn.Exit ∷ fn.Abort ∷ fn.Malloc ∷ fn.Calloc ∷ fn.Realloc ∷ fn.Free ∷ fn.Memcpy ∷ fn.Memmove ∷ fn.Mempcpy ∷ fn.Memset
    ∷ fn.Bzero ∷ fn.ExplicitBzero ∷ fn.Memcmp ∷ fn.Strcpy ∷ fn.Stpcpy ∷ fn.Strncpy ∷ fn.Strcat ∷ fn.Strncat ∷ fn.Strlen
    ∷ fn.Strcmp ∷ fn.Strchr ∷ fn.Printf ∷ fn.Puts ∷ fn.Putchar ∷ fn.Dprintf ∷ fn.Sprintf ∷ fn.Snprintf ∷ fn.Read
    ∷ fn.Write ∷ fn.Getchar ∷ fn.Note ∷ []

-- the mode in which the size of its checked form is asked
abbrev pub mode_of : LibFn → Option Mode
mode_of f = option_map (λ form. form.mode) (row_of f).checked

-- The number of a function's form among the machine's host calls: a checked form has 64 more than the plain one.
abbrev pub host_number : LibFn → Bool → ℕ
host_number f checked = (row_of f).number + (if checked then 64 else 0)

-- a function by its place in the order of the numbers, and whether its checked form is meant
abbrev pub call_at : ℕ → Bool → Option (LibFn × Bool)
call_at place checked = option_map (λ f. (f, checked)) (slice_get library place)

-- the form that a host call's number names
abbrev pub call_of : ℕ → Option (LibFn × Bool)
call_of number = let checked = nat_le 64 number in call_at (cond checked (number - 64) number) checked

-- the code's row as a row of the table
abbrev pub row_view : FunctionRow → LibRow
row_view r = row r.name.now r.number r.checked r.parameters.now r.variadic r.gives
