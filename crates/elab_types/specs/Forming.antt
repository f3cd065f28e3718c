-- What the parts of a declarator make of a type, as the code keeps it: depths up to one past the limit, and no type past it.
use Rattle.std.specs.Prelude.{ℕ, zero, suc, ◌==◌, nat_lt, max, min, Bool, true, false, not, ◌||◌, if◌then◌else◌, is_some, List, length, fold, Option, None, Some}
use Rattle.c_layout.specs.declared.depths.Depth.{Depth}
use Rattle.c_layout.specs.declared.types.CType.{CType}
use Rattle.c_layout.specs.declared.types.CType.TheVariants.{Void, Ptr, Array, OpenArray}
use Rattle.c_layout.specs.declared.tags.TagDef.{TagDef}
use Rattle.c_layout.specs.Depths.{capped_depth, capped_depths, deepest, depth_of, tag_depth, type_depths}
use Rattle.c_layout.specs.Layouts.{layout}
use Rattle.c_layout.specs.Types.{is_array, is_structure}
use Rattle.c_tree.specs.Typed.{most_arguments}
use Rattle.elab_meaning.specs.Declarations.{is_too_large}
use Rattle.elab_types.specs.declared.forming.Formed.{Formed}
use Rattle.elab_types.specs.declared.forming.Made.{Made}
use Rattle.elab_types.specs.declared.forming.Made.TheVariants.{Object, Function}

abbrev pub is_function : Made → Bool
is_function (Object t) = false
is_function (Function params of) = true

abbrev pub type_of : Made → CType
type_of (Object t) = t
type_of (Function params of) = Void

abbrev pub unformed : List TagDef → CType → Formed
unformed tags t = record {
  made = Object t;
  depth = capped_depths (type_depths (tag_depth tags) t);
  broken = record { bad_type = false; too_large = false; by_value = false; function_pointer = false; too_many = false };
  cut = false;
}

-- whether a pointer would be over the limit of depth
abbrev pub is_past : Formed → Bool
is_past f = nat_lt deepest (capped_depth (suc f.depth.behind))

abbrev pub pointed_to : Formed → Formed
pointed_to f = record {
  made = Object (Ptr (if is_past f then Void else type_of f.made));
  depth = depth_of (capped_depth (suc f.depth.behind)) (capped_depth (suc f.depth.behind));
  broken = record f.broken { function_pointer = f.broken.function_pointer || is_function f.made };
  cut = f.cut || is_past f;
}

abbrev pub starred : ℕ → Formed → Formed
starred zero f = f
starred (suc n) f = pointed_to (starred n f)

-- ---- arrays, by how many elements their bounds stand for

-- the greatest count that a type holds
abbrev pub widest : ℕ
widest = 4294967295

abbrev pub array_of : CType → Option ℕ → CType
array_of t None = OpenArray t
array_of t (Some count) = Array t (min count widest)

abbrev pub is_zero : Option ℕ → Bool
is_zero None = false
is_zero (Some count) = count == 0

abbrev pub is_wide : Option ℕ → Bool
is_wide None = false
is_wide (Some count) = nat_lt widest count

abbrev pub arrayed : List TagDef → Option ℕ → Formed → Formed
arrayed tags bound f = record {
  made = Object (array_of (type_of f.made) bound);
  depth = depth_of (capped_depth (suc f.depth.plain)) (capped_depth (suc f.depth.behind));
  broken = record f.broken {
    bad_type = f.broken.bad_type || not (is_some (layout tags (type_of f.made))) || is_zero bound;
    too_large = f.broken.too_large || is_too_large tags (array_of (type_of f.made) bound);
  };
  cut = f.cut || is_wide bound;
}

-- ---- functions

abbrev pub deeper_of : Depth → Depth → Depth
deeper_of a b = depth_of (max a.plain b.plain) (max a.behind b.behind)

abbrev pub with_depth : List TagDef → Depth → CType → Depth
with_depth tags d t = deeper_of (capped_depths (type_depths (tag_depth tags) t)) d

abbrev pub deepest_of : List TagDef → Depth → List CType → Depth
deepest_of tags = fold (with_depth tags)

abbrev pub returned : List TagDef → List CType → Formed → Formed
returned tags params f = record {
  made = Function params (type_of f.made);
  depth = deepest_of tags f.depth params;
  broken = record f.broken {
    bad_type = f.broken.bad_type || is_function f.made || is_array (type_of f.made);
    by_value = f.broken.by_value || is_structure (type_of f.made);
    too_many = f.broken.too_many || nat_lt most_arguments (length params);
  };
  cut = f.cut;
}
