-- The types of library functions, and of the names that headers declare, as types of C, with the sizes of 64-bit Linux.
use Rattle.std.specs.Prelude.{Bool, true, false, List, map}
use Rattle.fc_base.specs.declared.levels.Width.{Width}
use Rattle.fc_base.specs.declared.levels.Width.TheVariants.{W1, W4, W8}
use Rattle.c_headers.specs.Headers.{TypeName}
use Rattle.c_library.specs.declared.functions.LibFn.{LibFn}
use Rattle.c_library.specs.declared.functions.LibType.{LibType}
use Rattle.c_library.specs.declared.functions.LibType.TheVariants as lib
use Rattle.c_library.specs.Library.{row_of}
use Rattle.c_layout.specs.declared.types.CType.{CType}
use Rattle.c_layout.specs.declared.types.CType.TheVariants as ctype

-- the integer type of a width that is no char and no long long
abbrev pub integer : Width → Bool → CType
integer width signed = ctype.Int width signed false false

abbrev pub void_pointer : CType
void_pointer = ctype.Ptr ctype.Void

abbrev pub char_pointer : CType
char_pointer = ctype.Ptr (ctype.Int W1 true true false)

abbrev pub lib_ctype : LibType → CType
lib_ctype lib.Void = ctype.Void
lib_ctype lib.Int = integer W4 true
lib_ctype lib.Long = integer W8 true
lib_ctype lib.Size = integer W8 false
lib_ctype lib.VoidPointer = void_pointer
lib_ctype lib.CharPointer = char_pointer

-- the types of a function's parameters, and of its result
abbrev pub lib_parameters : LibFn → List CType
lib_parameters f = map lib_ctype (row_of f).parameters

abbrev pub lib_result : LibFn → CType
lib_result f = lib_ctype (row_of f).gives

-- the type that a name of a header stands for: int8_t is signed char, and int64_t is long
abbrev pub header_ctype : TypeName → CType
header_ctype t = integer t.width t.signed
