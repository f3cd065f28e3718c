-- What the code makes of a declared type stands for what the definition makes of it: the same rules are broken, and it is the same type
-- unless it is no array that C11 allows or passes a limit. Then another type of its kind stands in its place.
use Rattle.std.specs.Prelude.{◌≡◌, ℕ, ◌<◌, Bool, false, not, nat_lt, is_some, ◌||◌, List, Option, Some}
use Rattle.std.specs.Option.{option_map}
use Rattle.c_layout.specs.declared.tags.TagDef.{TagDef}
use Rattle.c_layout.specs.declared.types.CType.{CType}
use Rattle.c_layout.specs.Depths.{deepest}
use Rattle.c_layout.specs.Layouts.{largest_type, layout}
use Rattle.c_layout.specs.Types.{element, is_array, is_open_array, is_structure}
use Rattle.elab_meaning.specs.Declarations.{Formed as Real, Made as Declared, object_of, function_of, is_function_made, type_made, passes_limit}
use Rattle.elab_types.specs.declared.forming.Formed.{Formed}
use Rattle.elab_types.specs.declared.forming.Made.{Made}
use Rattle.elab_types.specs.declared.forming.Made.TheVariants.{Object, Function}
use Rattle.elab_types.specs.Forming.{is_function, type_of}

-- two sizes that are the same, or both over the limit
pub data AlikeSizes : Option ℕ → Option ℕ → Type 0 where
  same : {m n : Option ℕ} → m ≡ n → AlikeSizes m n
  large : {m n : ℕ} → largest_type < m → largest_type < n → AlikeSizes (Some m) (Some n)

abbrev pub size_of : List TagDef → CType → Option ℕ
size_of tags t = option_map (λ l. l.size) (layout tags t)

-- types of one kind, both with a size or both without, and both over the limit or neither
pub record AlikeTypes (tags : List TagDef) (real kept : CType) : Type 0 where
  pub arrays : is_array real ≡ is_array kept
  pub open_arrays : is_open_array real ≡ is_open_array kept
  pub structures : is_structure real ≡ is_structure kept
  pub elements : is_some (layout tags (element real)) ≡ is_some (layout tags (element kept))
  pub sizes : AlikeSizes (size_of tags real) (size_of tags kept)

-- what is declared, as the definition has it
abbrev pub made_of : Made → Declared
made_of (Object t) = object_of t
made_of (Function params of) = function_of params of

-- over the limit of bytes, or of depth
abbrev pub is_over : Formed → Bool
is_over f = f.broken.too_large || nat_lt deepest f.depth.plain

-- it is the type itself, or a rule is broken
abbrev pub is_settled : Formed → Bool
is_settled f = not f.cut || f.broken.bad_type || is_over f

pub record Stands (tags : List TagDef) (real : Real) (f : Formed) : Type 0 where
  pub functions : is_function_made real.made ≡ is_function f.made
  pub types : AlikeTypes tags (type_made real.made) (type_of f.made)
  pub bad_type : real.bad_type ≡ f.broken.bad_type
  pub limit : passes_limit real ≡ is_over f
  pub by_value : real.by_value ≡ f.broken.by_value
  pub function_pointer : real.function_pointer ≡ f.broken.function_pointer
  pub too_many : real.too_many ≡ f.broken.too_many
  pub whole : f.broken.bad_type || is_over f ≡ false → real.made ≡ made_of f.made
