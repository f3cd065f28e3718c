-- How a list of tags keeps the layouts and the depths of those that are complete, and where their members stand.
use Rattle.std.specs.Prelude.{◌≡◌, ℕ, true, is_some, List, map, slice_get, Option, Some, IfSome, option_and_then}
use Rattle.std.specs.Option.{option_map, option_map_or}
use Rattle.c_layout.specs.declared.types.Layout.{Layout}
use Rattle.c_layout.specs.declared.tags.Entry.{Entry}
use Rattle.c_layout.specs.declared.tags.TagDef.{TagDef}
use Rattle.c_layout.specs.Layouts.{member_offset, tag_layout, within_limit}
use Rattle.c_layout.specs.Capped.{capped}
use Rattle.c_layout.specs.Depths.{capped_depth, tag_depth}

abbrev pub definitions : List Entry → List TagDef
definitions entries = map (λ e. e.def) entries

abbrev pub kept_layout : List Entry → ℕ → Option Layout
kept_layout entries tag = option_and_then (λ e. e.layout) (slice_get entries tag)

abbrev pub kept_depth : List Entry → ℕ → ℕ
kept_depth entries tag = option_map_or (λ e. e.depth) (slice_get entries tag) 0

-- where the members of a complete definition stand, cut at one past the limit
pub record AreOffsets (tags : List TagDef) (def : TagDef) (offsets : List ℕ) : Type 0 where
  pub complete : def.complete ≡ true
  pub each : (member : ℕ) → option_and_then within_limit (slice_get offsets member) ≡ member_offset tags member def

-- each complete tag has a layout, and what is kept of each is its layout, its depth, and where its members stand
pub record AreLaidOut (entries : List Entry) : Type 0 where
  pub kept : (tag : ℕ) → kept_layout entries tag ≡ option_map capped (tag_layout (definitions entries) tag)
  pub deep : (tag : ℕ) → kept_depth entries tag ≡ capped_depth (tag_depth (definitions entries) tag)
  pub sized : (tag : ℕ) (def : TagDef) → slice_get (definitions entries) tag ≡ Some def → def.complete ≡ true →
      is_some (tag_layout (definitions entries) tag) ≡ true
  pub placed : (tag : ℕ) (e : Entry) → slice_get entries tag ≡ Some e → IfSome e.offsets (AreOffsets (definitions entries) e.def)
