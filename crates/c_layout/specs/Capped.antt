-- Sizes that stop at one past the limit, as the code keeps them.
use Rattle.std.specs.Prelude.{ℕ, ◌+◌, ◌≤◌, min, max, Bool, true, false, List, [], ◌∷◌}
use Rattle.c_layout.specs.declared.types.Layout.{Layout}
use Rattle.c_layout.specs.declared.sizes.Placed.{Placed}
use Rattle.c_layout.specs.Layouts.{largest_type, aligned, end_of, last_place, greatest_size, greatest_align, rounded}

abbrev pub capped_size : ℕ → ℕ
capped_size size = min size (largest_type + 1)

abbrev pub capped : Layout → Layout
capped l = record { size = capped_size l.size; align = l.align }

-- the last of members behind those so far
abbrev pub last_behind : ℕ → ℕ → List Layout → ℕ
last_behind last place [] = last
last_behind last place (l ∷ ls) = last_place place (l ∷ ls)

abbrev pub placed_behind : Placed → List Layout → Placed
placed_behind p ls = record {
  last = capped_size (last_behind p.last p.end ls);
  end = capped_size (end_of p.end ls);
  size = capped_size (max p.size (greatest_size ls));
  align = max p.align (greatest_align ls);
}

abbrev pub nothing_placed : Placed
nothing_placed = record { last = 0; end = 0; size = 0; align = 1 }

abbrev pub placed : List Layout → Placed
placed = placed_behind nothing_placed

-- one more member
abbrev pub with_member : Placed → Layout → Placed
with_member p l = record {
  last = capped_size (aligned p.end l.align);
  end = capped_size (capped_size (aligned p.end l.align) + l.size);
  size = capped_size (max p.size l.size);
  align = max p.align l.align;
}

-- members so far in numbers that have stopped
pub record IsCut (p : Placed) : Type 0 where
  pub last : p.last ≤ 4194305
  pub end : p.end ≤ 4194305
  pub size : p.size ≤ 4194305
  pub positive : 1 ≤ p.align
  pub small : p.align ≤ 8

-- where the last of them stands: all of a union at its start
abbrev pub offset_in : Bool → Placed → ℕ
offset_in false p = p.last
offset_in true p = 0

-- where members stand behind those so far
abbrev pub offsets_behind : Bool → Placed → List Layout → List ℕ
offsets_behind is_union p [] = []
offsets_behind is_union p (l ∷ ls) = offset_in is_union (with_member p (capped l)) ∷ offsets_behind is_union (with_member p (capped l)) ls

abbrev pub offsets_of : Bool → List Layout → List ℕ
offsets_of is_union = offsets_behind is_union nothing_placed

-- the structure or union of what was placed
abbrev pub aggregate_of : Bool → Placed → Layout
aggregate_of false p = rounded p.end p.align
aggregate_of true p = rounded p.size p.align
