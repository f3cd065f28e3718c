-- What the definitions of layouts mean, said without computing one (C11 6.7.2.1, paragraphs 14 to 18).
use Rattle.std.specs.Prelude.{◌≡◌, ℕ, ◌+◌, ◌%◌, ◌<◌, ◌≤◌, Bool, true, false, List, All, take, slice_get, Some, IfSome, IsSome, IsSomeAnd}
use Rattle.std.specs.Option.{option_map}
use Rattle.c_layout.specs.declared.tags.TagDef.{TagDef}
use Rattle.c_layout.specs.declared.types.CType.{CType}
use Rattle.c_layout.specs.declared.types.Layout.{Layout}
use Rattle.c_layout.specs.Layouts.{aligned, end_of, last_place, aggregate, member_layouts, tag_layout, layout, offset, largest_type}

-- the first multiple of the alignment from a place on
pub record IsNextMultiple (place align next : ℕ) : Type 0 where
  pub multiple : next % align ≡ 0
  pub not_before : place ≤ next
  pub first : next < place + align

abbrev pub GivesNextMultiple : Type 0
GivesNextMultiple = (place align : ℕ) → 0 < align → IsNextMultiple place align (aligned place align)

-- A member of a structure stands at a multiple of its alignment, at or behind the end of those before it, and ends
-- within the structure.
pub record IsPlaced (members : List Layout) (number : ℕ) (member : Layout) : Type 0 where
  pub multiple : last_place 0 (take (number + 1) members) % member.align ≡ 0
  pub behind : end_of 0 (take number members) ≤ last_place 0 (take (number + 1) members)
  pub within : last_place 0 (take (number + 1) members) + member.size ≤ (aggregate false members).size

abbrev pub PlacesMembers : Type 0
PlacesMembers = (members : List Layout) → All (λ l. 0 < l.align) members → (number : ℕ) (member : Layout) →
    slice_get members number ≡ Some member → IsPlaced members number member

-- Each alignment is from 1 to 8.
abbrev pub HasSmallAlignments : Type 0
HasSmallAlignments = (tags : List TagDef) (ctype : CType) → IfSome (layout tags ctype) (λ l. (1 ≤ l.align) × (l.align ≤ 8))

-- Each complete tag has a layout, that of its members.
abbrev pub HasLayouts : List TagDef → Type 0
HasLayouts tags = (tag : ℕ) (def : TagDef) → slice_get tags tag ≡ Some def → def.complete ≡ true →
    IsSome (tag_layout tags tag) × (tag_layout tags tag ≡ option_map (aggregate def.is_union) (member_layouts (tag_layout tags) def.members))

-- Where the members of a structure or union stand that has this layout, as its members have these: each at a multiple
-- of its alignment and within the whole, all of a union at 0, and of a structure each behind those before it.
pub record HasPlaces (tags : List TagDef) (tag : ℕ) (is_union : Bool) (whole : Layout) (members : List Layout) : Type 0 where
  pub place : ℕ → ℕ
  pub offsets : (k : ℕ) (m : Layout) → slice_get members k ≡ Some m → offset tags tag k ≡ Some (place k)
  pub multiple : (k : ℕ) (m : Layout) → slice_get members k ≡ Some m → place k % m.align ≡ 0
  pub within : (k : ℕ) (m : Layout) → slice_get members k ≡ Some m → place k + m.size ≤ whole.size
  pub union : is_union ≡ true → (k : ℕ) → place k ≡ 0
  pub apart : is_union ≡ false → (j k : ℕ) (m n : Layout) → j < k → slice_get members j ≡ Some m → slice_get members k ≡ Some n → place j + m.size ≤ place k

-- Each structure or union within the limit has its members so.
abbrev pub PlacesOffsets : Type 0
PlacesOffsets = (tags : List TagDef) (tag : ℕ) (def : TagDef) (whole : Layout) → slice_get tags tag ≡ Some def → tag_layout tags tag ≡ Some whole →
    whole.size ≤ largest_type → IsSomeAnd (member_layouts (tag_layout tags) def.members) (HasPlaces tags tag def.is_union whole)
