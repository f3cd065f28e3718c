-- Declarators as the code keeps them: a list of parts from the name out.
use Rattle.std.specs.Prelude.{ℕ, ℤ, List, [], ◌∷◌, map, fold, Option, None, Some}
use Rattle.std.specs.Option.{option_map}
use Rattle.c_arithmetic.specs.Arithmetic.{integer}
use Rattle.fc_base.specs.declared.refusals.Place.{Place}
use Rattle.c_layout.specs.declared.tags.TagDef.{TagDef}
use Rattle.c_layout.specs.declared.types.CType.{CType}
use Rattle.elab_meaning.specs.Declarations.{count}
use Rattle.elab_meaning.specs.Parts.{Shape, innermost, pointer, array, function, Parameter as Declared}
use Rattle.elab_types.specs.declared.forming.Formed.{Formed}
use Rattle.elab_types.specs.declared.shapes.Bound.{Bound}
use Rattle.elab_types.specs.declared.shapes.Parameter.{Parameter}
use Rattle.elab_types.specs.declared.shapes.Part.{Part}
use Rattle.elab_types.specs.declared.shapes.Part.TheVariants.{Stars, Array, Function}
use Rattle.elab_types.specs.Forming.{unformed, starred, arrayed, returned}

abbrev pub value_in : Bound → ℤ
value_in b = integer b.signed b.bits

abbrev pub bounded : Option Bound → Option ℕ
bounded None = None
bounded (Some b) = Some (count (value_in b))

abbrev pub types_of : List Parameter → List CType
types_of = map (λ p. p.ctype)

abbrev pub parameter : Parameter → Declared
parameter p = record { name = p.name; place = p.place; ctype = p.ctype }

abbrev pub named_param : Option (List ℕ) → Place → CType → Parameter
named_param name place t = record { name = name; place = place; ctype = t }

-- ---- as the definition sees them

abbrev pub with_part : Shape → Part → Shape
with_part s (Stars n) = pointer n s
with_part s (Array bound) = array s (option_map value_in bound)
with_part s (Function params) = function s (map parameter params)

abbrev pub shape_of : List Part → Shape
shape_of = fold with_part innermost

-- ---- what they make of a type

abbrev pub formed_part : List TagDef → Part → Formed → Formed
formed_part tags (Stars n) f = starred n f
formed_part tags (Array bound) f = arrayed tags (bounded bound) f
formed_part tags (Function params) f = returned tags (types_of params) f

abbrev pub formed_on : List TagDef → List Part → Formed → Formed
formed_on tags [] f = f
formed_on tags (p ∷ ps) f = formed_part tags p (formed_on tags ps f)

abbrev pub formed_parts : List TagDef → List Part → CType → Formed
formed_parts tags parts t = formed_on tags parts (unformed tags t)
