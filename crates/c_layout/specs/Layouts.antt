-- Sizes, alignments and offsets: C11 6.2.5, 6.2.8, 6.5.3.4 and 6.7.2.1, with the sizes of 64-bit Linux
-- (System V ABI for AMD64, "Data Representation").
use Rattle.std.specs.Prelude.{ℕ, zero, suc, ◌+◌, ◌-◌, ◌*◌, ◌/◌, max, Bool, true, false, if◌then◌else◌, nat_le, nat_lt, IsTrue, IsSome, List, [], ◌∷◌, length, take, count_by, slice_get, Option, None, Some, Result, Ok, Err, option_and_then}
use Rattle.std.specs.Option.{option_map}
use Rattle.fc_base.specs.Widths.{width_bytes}
use Rattle.c_layout.specs.declared.types.CType.{CType, out-CType, fold-CType}
use Rattle.c_layout.specs.declared.types.CType.TheOpen.{CType-F}
use Rattle.c_layout.specs.declared.types.Layout.{Layout}
use Rattle.c_layout.specs.declared.types.LayoutFault.{LayoutFault}
use Rattle.c_layout.specs.declared.types.LayoutFault.TheVariants.{Incomplete, TooBig}
use Rattle.c_layout.specs.declared.tags.Member.{Member}
use Rattle.c_layout.specs.declared.tags.TagDef.{TagDef}

-- the most bytes that one type may take. This project's own.
abbrev pub largest_type : ℕ
largest_type = 4194304

-- a type that takes so many bytes and stands at multiples of that number
abbrev pub scalar : ℕ → Layout
scalar bytes = record { size = bytes; align = bytes }

-- so many of a type behind one another
abbrev pub repeated : ℕ → Layout → Layout
repeated count element = record { size = element.size * count; align = element.align }

-- a flexible array of a type, as a structure holds it: it takes no bytes (C11 6.7.2.1, paragraph 18)
abbrev pub flexible : Layout → Layout
flexible element = record { size = 0; align = element.align }

-- the next multiple of the alignment, from a place on
abbrev pub aligned : ℕ → ℕ → ℕ
aligned place align = (place + (align - 1)) / align * align

-- the end of members that stand one behind another from a place on, each at the next multiple of its alignment
abbrev pub end_of : ℕ → List Layout → ℕ
end_of place [] = place
end_of place (l ∷ ls) = end_of (aligned place l.align + l.size) ls

-- the place of the last of them
abbrev pub last_place : ℕ → List Layout → ℕ
last_place place [] = place
last_place place (l ∷ []) = aligned place l.align
last_place place (l ∷ m ∷ ls) = last_place (aligned place l.align + l.size) (m ∷ ls)

-- the greatest size of members, and the greatest of this number and their alignments
abbrev pub greatest_size : List Layout → ℕ
greatest_size [] = 0
greatest_size (l ∷ ls) = max l.size (greatest_size ls)

abbrev pub greatest_align : List Layout → ℕ
greatest_align [] = 1
greatest_align (l ∷ ls) = max l.align (greatest_align ls)

-- a structure of members, or a union of them, rounded up to the greatest alignment
abbrev pub rounded : ℕ → ℕ → Layout
rounded size align = record { size = aligned size align; align = align }

abbrev pub aggregate : Bool → List Layout → Layout
aggregate false ls = rounded (end_of 0 ls) (greatest_align ls)
aggregate true ls = rounded (greatest_size ls) (greatest_align ls)

-- The layouts of types, where those of the tags are known.
module _ (tag_layout : ℕ → Option Layout) where
  abbrev pub layer_layout : CType-F (Option Layout) → Option Layout
  layer_layout CType-F.Void = None
  layer_layout (CType-F.Int width signed plain_char long_long) = Some (scalar (width_bytes width))
  layer_layout (CType-F.Ptr of) = Some (scalar 8)
  layer_layout (CType-F.Array of count) = option_map (repeated count) of
  layer_layout (CType-F.OpenArray of) = None
  layer_layout (CType-F.Struct tag) = tag_layout tag
  layer_layout (CType-F.Union tag) = tag_layout tag

  -- a type's layout, none where it has no size
  abbrev pub type_layout : CType → Option Layout
  type_layout = fold-CType (Option Layout) layer_layout

  -- the layout of a last member, which may be a flexible array
  abbrev pub last_of : CType → CType-F CType → Option Layout
  last_of ctype (CType-F.OpenArray of) = option_map flexible (type_layout of)
  last_of ctype _ = type_layout ctype

  abbrev pub last_layout : CType → Option Layout
  last_layout ctype = last_of ctype (out-CType ctype)

  -- the layout of a member before others: only the last may be a flexible array
  abbrev pub member_layout : Member → List Member → Option Layout
  member_layout m [] = last_layout m.ctype
  member_layout m (n ∷ ms) = type_layout m.ctype

  -- the layouts of members in order, none where one of them has no size
  abbrev pub member_layouts : List Member → Option (List Layout)
  member_layouts [] = Some []
  member_layouts (m ∷ ms) = option_and_then (λ l. option_map (λ ls. l ∷ ls) (member_layouts ms)) (member_layout m ms)

  abbrev pub definition_layout : TagDef → Option Layout
  definition_layout def = if def.complete then option_map (aggregate def.is_union) (member_layouts def.members) else None

-- the layout of a tag, through at most so many tags one inside another
abbrev pub tag_layout_within : ℕ → List TagDef → ℕ → Option Layout
tag_layout_within zero tags tag = None
tag_layout_within (suc n) tags tag = option_and_then (definition_layout (tag_layout_within n tags)) (slice_get tags tag)

-- how many tags are complete
abbrev pub complete_count : List TagDef → ℕ
complete_count tags = count_by (λ def. def.complete) tags

-- The layout of a tag, none where it isn't there or isn't complete. No tag contains itself, so at most all complete
-- tags stand one inside another.
abbrev pub tag_layout : List TagDef → ℕ → Option Layout
tag_layout tags = tag_layout_within (complete_count tags) tags

-- the layout of a type, none where it has no size
abbrev pub layout : List TagDef → CType → Option Layout
layout tags = type_layout (tag_layout tags)

-- If the definition is complete, each of its members has a size, or as a last flexible array its element.
abbrev pub HaveSizes : List TagDef → TagDef → Type 0
HaveSizes tags def = IsTrue def.complete → IsSome (member_layouts (tag_layout tags) def.members)

-- the layout of a type whose size is within the limit
abbrev pub judged : Option Layout → Result Layout LayoutFault
judged None = Err Incomplete
judged (Some l) = if nat_le l.size largest_type then Ok l else Err TooBig

abbrev pub layout_within_limit : List TagDef → CType → Result Layout LayoutFault
layout_within_limit tags ctype = judged (layout tags ctype)

-- The layout that a member has, whose size is its declared size: a flexible array member takes no bytes.
abbrev pub declared_within_limit : List TagDef → CType → Result Layout LayoutFault
declared_within_limit tags ctype = judged (last_layout (tag_layout tags) ctype)

-- where the last of members stands: behind those before it, or at 0 in a union
abbrev pub offset_among : Bool → List Layout → ℕ
offset_among false ls = last_place 0 ls
offset_among true ls = 0

abbrev pub within_limit : ℕ → Option ℕ
within_limit offset = if nat_le offset largest_type then Some offset else None

-- the offset of a member of a definition: it and those before it have sizes, or for a flexible array its element
abbrev pub member_offset : List TagDef → ℕ → TagDef → Option ℕ
member_offset tags member def =
    if nat_lt member (length def.members)
    then option_and_then (λ ls. within_limit (offset_among def.is_union ls)) (member_layouts (tag_layout tags) (take (member + 1) def.members))
    else None

-- the offset of a member of a tag by number, none where the tag isn't there
abbrev pub offset : List TagDef → ℕ → ℕ → Option ℕ
offset tags tag member = option_and_then (member_offset tags member) (slice_get tags tag)
