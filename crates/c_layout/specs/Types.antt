-- What kind of type a type is (C11 6.2.5), what it is made from, when two are the same, and which pointers agree (6.5.16.1; this
-- project's own: but for void and the char types the types that are pointed to are the same, and qualifiers mean nothing).
use Rattle.std.specs.Prelude.{ℕ, Bool, true, false, not, ◌&&◌, ◌||◌, ◌==◌, is_some, Option, None, Some}
use Rattle.fc_base.specs.declared.levels.Width.{Width}
use Rattle.fc_base.specs.declared.levels.Width.TheVariants.{W1, W2, W4, W8}
use Rattle.fc_base.specs.Widths.{width_bytes}
use Rattle.c_layout.specs.declared.types.CType.{CType, out-CType, fold-CType}
use Rattle.c_layout.specs.declared.types.CType.TheOpen.{CType-F}
use Rattle.c_layout.specs.declared.types.CType.TheVariants.{Void, Int}
use Rattle.c_layout.specs.Library.{integer}

-- ---- the types of the language

-- char, which is signed and differs from signed char (6.2.5p15)
abbrev pub char : CType
char = Int W1 true true false

abbrev pub int : CType
int = integer W4 true

abbrev pub long : CType
long = integer W8 true

-- the type of sizes (7.19p2)
abbrev pub unsigned_long : CType
unsigned_long = integer W8 false

-- ---- kinds

-- a type as its outermost part with the types inside
abbrev pub Layer : Type 0
Layer = CType-F CType

abbrev void_layer : Layer → Bool
void_layer CType-F.Void = true
void_layer _ = false

abbrev pub is_void : CType → Bool
is_void t = void_layer (out-CType t)

abbrev integer_layer : Layer → Bool
integer_layer (CType-F.Int width signed plain_char long_long) = true
integer_layer _ = false

-- an enumeration is an int
abbrev pub is_integer : CType → Bool
is_integer t = integer_layer (out-CType t)

abbrev pointer_layer : Layer → Bool
pointer_layer (CType-F.Ptr of) = true
pointer_layer _ = false

abbrev pub is_pointer : CType → Bool
is_pointer t = pointer_layer (out-CType t)

-- 6.2.5p21
abbrev pub is_scalar : CType → Bool
is_scalar t = is_integer t || is_pointer t

abbrev array_layer : Layer → Bool
array_layer (CType-F.Array of count) = true
array_layer (CType-F.OpenArray of) = true
array_layer _ = false

-- an array, `[]` too
abbrev pub is_array : CType → Bool
is_array t = array_layer (out-CType t)

abbrev open_layer : Layer → Bool
open_layer (CType-F.OpenArray of) = true
open_layer _ = false

abbrev pub is_open_array : CType → Bool
is_open_array t = open_layer (out-CType t)

abbrev tag_layer : Layer → Option ℕ
tag_layer (CType-F.Struct tag) = Some tag
tag_layer (CType-F.Union tag) = Some tag
tag_layer _ = None

-- the number of a structure or union
abbrev pub tag_of : CType → Option ℕ
tag_of t = tag_layer (out-CType t)

abbrev pub is_structure : CType → Bool
is_structure t = is_some (tag_of t)

abbrev char_layer : Layer → Bool
char_layer (CType-F.Int W1 signed plain_char long_long) = true
char_layer _ = false

-- char, signed char or unsigned char (6.2.5p15)
abbrev pub is_char : CType → Bool
is_char t = char_layer (out-CType t)

-- ---- what a type holds. Of a type of another kind it is void, which no accepted tree shows.

abbrev pointed_layer : Layer → CType
pointed_layer (CType-F.Ptr of) = of
pointed_layer _ = Void

-- what a pointer points to
abbrev pub pointed : CType → CType
pointed t = pointed_layer (out-CType t)

abbrev element_layer : Layer → CType
element_layer (CType-F.Array of count) = of
element_layer (CType-F.OpenArray of) = of
element_layer _ = Void

-- the element of an array
abbrev pub element : CType → CType
element t = element_layer (out-CType t)

-- ---- the same type

abbrev pub same_truth : Bool → Bool → Bool
same_truth true b = b
same_truth false b = not b

abbrev same_integer : Width → Bool → Bool → Bool → Layer → Bool
same_integer width signed plain_char long_long (CType-F.Int w s p l) =
    width_bytes width == width_bytes w && same_truth signed s && same_truth plain_char p && same_truth long_long l
same_integer width signed plain_char long_long _ = false

abbrev same_pointed : (CType → Bool) → Layer → Bool
same_pointed same (CType-F.Ptr of) = same of
same_pointed same _ = false

abbrev same_elements : (CType → Bool) → ℕ → Layer → Bool
same_elements same count (CType-F.Array of n) = count == n && same of
same_elements same count _ = false

abbrev same_open : (CType → Bool) → Layer → Bool
same_open same (CType-F.OpenArray of) = same of
same_open same _ = false

abbrev same_struct : ℕ → Layer → Bool
same_struct tag (CType-F.Struct n) = tag == n
same_struct tag _ = false

abbrev same_union : ℕ → Layer → Bool
same_union tag (CType-F.Union n) = tag == n
same_union tag _ = false

-- each layer with what it is to be the same as each type inside
abbrev pub same_layer : CType-F (CType → Bool) → CType → Bool
same_layer CType-F.Void t = is_void t
same_layer (CType-F.Int width signed plain_char long_long) t = same_integer width signed plain_char long_long (out-CType t)
same_layer (CType-F.Ptr same) t = same_pointed same (out-CType t)
same_layer (CType-F.Array same count) t = same_elements same count (out-CType t)
same_layer (CType-F.OpenArray same) t = same_open same (out-CType t)
same_layer (CType-F.Struct tag) t = same_struct tag (out-CType t)
same_layer (CType-F.Union tag) t = same_union tag (out-CType t)

-- Types are the same where they are equal: long and long long differ, `[]` and `[3]` too.
abbrev pub same_type : CType → CType → Bool
same_type = fold-CType (CType → Bool) same_layer

-- ---- conversions

-- the integer promotions (6.3.1.1p2): int holds each value of the char and short types
abbrev promoted_layer : CType → Layer → CType
promoted_layer t (CType-F.Int W1 signed plain_char long_long) = int
promoted_layer t (CType-F.Int W2 signed plain_char long_long) = int
promoted_layer t _ = t

abbrev pub promoted : CType → CType
promoted t = promoted_layer t (out-CType t)

-- pointers to the same type, or one of them to void, or both to char types
abbrev pub agrees : CType → CType → Bool
agrees a b = same_type (pointed a) (pointed b) || is_void (pointed a) || is_void (pointed b) || (is_char (pointed a) && is_char (pointed b))

abbrev pub agreeing_pointers : CType → CType → Bool
agreeing_pointers a b = is_pointer a && is_pointer b && agrees a b
