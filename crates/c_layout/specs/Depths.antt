-- How deep a type is: a pointer, array, structure or union is one deeper than the deepest type that it holds. A type that
-- holds no other counts 0, and so does a structure or union behind a pointer, arrays between or not. This project's own.
use Rattle.std.specs.Prelude.{ℕ, zero, suc, max, min, ◌+◌, if◌then◌else◌, List, [], ◌∷◌, slice_get}
use Rattle.std.specs.Option.{option_map_or}
pub use Rattle.c_layout.specs.declared.depths.Depth.{Depth}
use Rattle.c_layout.specs.declared.types.CType.{CType, fold-CType}
use Rattle.c_layout.specs.declared.types.CType.TheOpen.{CType-F}
use Rattle.c_layout.specs.declared.tags.Member.{Member}
use Rattle.c_layout.specs.declared.tags.TagDef.{TagDef}
use Rattle.c_layout.specs.Layouts.{complete_count}

-- the depth of a type, and what it counts behind a pointer
abbrev pub depth_of : ℕ → ℕ → Depth
depth_of plain behind = record { plain = plain; behind = behind }

-- the depth that a declarator or type name may have
abbrev pub deepest : ℕ
deepest = 400

-- The depths of types, where those of the tags are known.
module _ (tag_depth : ℕ → ℕ) where
  abbrev pub depth_layer : CType-F Depth → Depth
  depth_layer CType-F.Void = depth_of 0 0
  depth_layer (CType-F.Int width signed plain_char long_long) = depth_of 0 0
  depth_layer (CType-F.Ptr of) = depth_of (suc of.behind) (suc of.behind)
  depth_layer (CType-F.Array of count) = depth_of (suc of.plain) (suc of.behind)
  depth_layer (CType-F.OpenArray of) = depth_of (suc of.plain) (suc of.behind)
  depth_layer (CType-F.Struct tag) = depth_of (tag_depth tag) 0
  depth_layer (CType-F.Union tag) = depth_of (tag_depth tag) 0

  abbrev pub type_depths : CType → Depth
  type_depths = fold-CType Depth depth_layer

  abbrev pub type_depth : CType → ℕ
  type_depth ctype = (type_depths ctype).plain

  abbrev pub greatest_depth : List Member → ℕ
  greatest_depth [] = 0
  greatest_depth (m ∷ ms) = max (type_depth m.ctype) (greatest_depth ms)

  abbrev pub definition_depth : TagDef → ℕ
  definition_depth def = if def.complete then suc (greatest_depth def.members) else 0

-- the depth of a tag, through at most so many tags one inside another
abbrev pub tag_depth_within : ℕ → List TagDef → ℕ → ℕ
tag_depth_within zero tags tag = 0
tag_depth_within (suc n) tags tag = option_map_or (definition_depth (tag_depth_within n tags)) (slice_get tags tag) 0

-- No tag contains itself, so at most all complete tags stand one inside another.
abbrev pub tag_depth : List TagDef → ℕ → ℕ
tag_depth tags = tag_depth_within (complete_count tags) tags

abbrev pub depth : List TagDef → CType → ℕ
depth tags = type_depth (tag_depth tags)

-- ---- as the code keeps them: up to one past the limit

abbrev pub capped_depth : ℕ → ℕ
capped_depth n = min n (deepest + 1)

abbrev pub capped_depths : Depth → Depth
capped_depths d = depth_of (capped_depth d.plain) (capped_depth d.behind)
