-- The known headers, and the types, macros and functions that each declares.
-- C11 7.19 (stddef.h), 7.20 (stdint.h), 7.21 (stdio.h), 7.22 (stdlib.h) and 7.24 (string.h); POSIX (strings.h, unistd.h); the
-- functions that the GNU C library adds. Of each header only what stands here is known, and their order is this project's own.
use Rattle.std.specs.Prelude.{◌≡◌, ℕ, Bool, true, false, List, [], ◌∷◌, map, codes, Contains, find, Option}
use Rattle.std.specs.Str.{bytes_eq}
use Rattle.fc_base.specs.declared.levels.Width.{Width}
use Rattle.fc_base.specs.declared.levels.Width.TheVariants.{W1, W2, W4, W8}
use Rattle.c_library.specs.declared.functions.LibFn.{LibFn}
use Rattle.c_library.specs.declared.functions.LibFn.TheVariants.{Exit, Abort, Malloc, Calloc, Realloc, Free}
use Rattle.c_library.specs.declared.functions.LibFn.TheVariants.{Memcpy, Memmove, Mempcpy, Memset, Bzero, ExplicitBzero, Memcmp}
use Rattle.c_library.specs.declared.functions.LibFn.TheVariants.{Strcpy, Stpcpy, Strncpy, Strcat, Strncat, Strlen, Strcmp, Strchr}
use Rattle.c_library.specs.declared.functions.LibFn.TheVariants.{Printf, Puts, Putchar, Dprintf, Sprintf, Snprintf, Read, Write, Getchar}
use Rattle.c_library.specs.Library.{row_of}
use Rattle.c_headers.specs.declared.headers.HeaderId.{HeaderId}
use Rattle.c_headers.specs.declared.headers.HeaderId.TheVariants as header
use Rattle.c_headers.specs.declared.headers.HeaderMacro.{HeaderMacro}
use Rattle.c_headers.specs.declared.headers.HeaderRow.{HeaderRow}
use Rattle.c_headers.specs.declared.headers.HeaderType.{HeaderType}
use Rattle.c_headers.specs.declared.headers.MacroValue.{MacroValue}
use Rattle.c_headers.specs.declared.headers.MacroValue.TheVariants.{NullPointer, MinusOne, Zero, One, Two}

-- ---- types: each is the integer type of a width, signed or unsigned

pub record TypeName : Type 0 where
  pub name : List ℕ
  pub width : Width
  pub signed : Bool

abbrev type_name : List ℕ → Width → Bool → TypeName
type_name name width signed = record { name = name; width = width; signed = signed }

-- C11 7.19p2; an unsigned long
abbrev size_t : TypeName
size_t = type_name (codes "size_t") W8 false

-- C11 7.19p2; a long
abbrev ptrdiff_t : TypeName
ptrdiff_t = type_name (codes "ptrdiff_t") W8 true

-- POSIX; a long
abbrev ssize_t : TypeName
ssize_t = type_name (codes "ssize_t") W8 true

-- C11 7.20.1.1
abbrev exact_width : List TypeName
exact_width =
    type_name (codes "int8_t") W1 true ∷ type_name (codes "int16_t") W2 true
    ∷ type_name (codes "int32_t") W4 true ∷ type_name (codes "int64_t") W8 true
    ∷ type_name (codes "uint8_t") W1 false ∷ type_name (codes "uint16_t") W2 false
    ∷ type_name (codes "uint32_t") W4 false ∷ type_name (codes "uint64_t") W8 false ∷ []

-- ---- macros: each is plain, and stands for one of a few values

pub record MacroName : Type 0 where
  pub name : List ℕ
  pub value : MacroValue

abbrev macro_name : List ℕ → MacroValue → MacroName
macro_name name value = record { name = name; value = value }

-- C11 7.19p3
abbrev null : MacroName
null = macro_name (codes "NULL") NullPointer

-- C11 7.21.1p3: negative; this project's own, as glibc's, is -1
abbrev end_of_file : MacroName
end_of_file = macro_name (codes "EOF") MinusOne

-- C11 7.22p3
abbrev exits : List MacroName
exits = macro_name (codes "EXIT_SUCCESS") Zero ∷ macro_name (codes "EXIT_FAILURE") One ∷ []

-- POSIX, unistd.h
abbrev descriptors : List MacroName
descriptors = macro_name (codes "STDIN_FILENO") Zero ∷ macro_name (codes "STDOUT_FILENO") One ∷ macro_name (codes "STDERR_FILENO") Two ∷ []

-- ---- headers

-- A header's name between the angle brackets; its number; the names of types that it declares; its macros; its functions.
pub record Row : Type 0 where
  pub name : List ℕ
  pub number : ℕ
  pub types : List TypeName
  pub macros : List MacroName
  pub functions : List LibFn

abbrev row : List ℕ → ℕ → List TypeName → List MacroName → List LibFn → Row
row name number types macros functions =
    record { name = name; number = number; types = types; macros = macros; functions = functions }

abbrev pub header_row : HeaderId → Row
header_row header.String = row (codes "string.h") 0 (size_t ∷ []) (null ∷ [])
    (Memcpy ∷ Memmove ∷ Mempcpy ∷ Memset ∷ ExplicitBzero ∷ Memcmp ∷ Strcpy ∷ Stpcpy ∷ Strncpy ∷ Strcat
    ∷ Strncat ∷ Strlen ∷ Strcmp ∷ Strchr ∷ [])
header_row header.Strings = row (codes "strings.h") 1 [] [] (Bzero ∷ [])
header_row header.Stdio = row (codes "stdio.h") 2 (size_t ∷ []) (null ∷ end_of_file ∷ [])
    (Printf ∷ Dprintf ∷ Sprintf ∷ Snprintf ∷ Puts ∷ Putchar ∷ Getchar ∷ [])
header_row header.Stdlib = row (codes "stdlib.h") 3 (size_t ∷ []) (null ∷ exits)
    (Malloc ∷ Calloc ∷ Realloc ∷ Free ∷ Exit ∷ Abort ∷ [])
header_row header.Stddef = row (codes "stddef.h") 4 (size_t ∷ ptrdiff_t ∷ []) (null ∷ []) []
header_row header.Stdint = row (codes "stdint.h") 5 exact_width [] []
header_row header.Unistd = row (codes "unistd.h") 6 (size_t ∷ ssize_t ∷ []) (null ∷ descriptors) (Read ∷ Write ∷ [])

-- all of them, in the order of their numbers
abbrev pub headers : List HeaderId
headers = header.String ∷ header.Strings ∷ header.Stdio ∷ header.Stdlib ∷ header.Stddef ∷ header.Stdint ∷ header.Unistd ∷ []

abbrev pub header_name : HeaderId → List ℕ
header_name h = (header_row h).name

abbrev pub header_number : HeaderId → ℕ
header_number h = (header_row h).number

-- the header between the angle brackets, none where it is not known
abbrev pub header_named : List ℕ → Option HeaderId
header_named name = find (λ h. bytes_eq (header_name h) name) headers

-- a header declares the function, so a source can call it
abbrev pub HasHeader : LibFn → Type 0
HasHeader f = (h : HeaderId) × Contains (header_row h).functions f

-- the function of this name among these, none where there is none
abbrev pub function_named : List LibFn → List ℕ → Option LibFn
function_named functions name = find (λ f. bytes_eq (row_of f).name name) functions

-- the header of this number declares the function, and this is its name
pub record IsDeclared (f : LibFn) (name : List ℕ) (number : ℕ) : Type 0 where
  pub header : HeaderId
  pub numbered : header_number header ≡ number
  pub declared : Contains (header_row header).functions f
  pub named : (row_of f).name ≡ name

-- ---- the code's rows as rows of the table

abbrev pub type_view : HeaderType → TypeName
type_view t = type_name t.name.now t.width t.signed

abbrev pub macro_view : HeaderMacro → MacroName
macro_view m = macro_name m.name.now m.value

abbrev pub row_view : HeaderRow → Row
row_view r = row r.name.now r.number (map type_view r.types.now) (map macro_view r.macros.now) r.functions.now
