-- The laws of layouts.
use Rattle.std.proofs.Common.{◌≡◌, ℕ, zero, suc, ◌+◌, ◌-◌, ◌/◌, ◌%◌, ◌<◌, ◌≤◌, List, [], ◌∷◌, take, Option, None, Some, IfSome, All, refl, subst, ◌∙◌, add-one, arith}
use Rattle.std.proofs.lemmas.List.Elements.{All-head, All-tail}
use Rattle.std.proofs.Math.Nat.{mul-mod_left, div-mul-le_self}
use Rattle.std.specs.Prelude.{slice_get}
use Rattle.c_layout.specs.declared.tags.TagDef.{TagDef}
use Rattle.c_layout.specs.declared.types.Layout.{Layout}
use Rattle.c_layout.specs.Layouts.{aligned, end_of, last_place, greatest_align, layout, tag_layout}
use Rattle.c_layout.specs.Laws.{GivesNextMultiple, PlacesMembers, HasSmallAlignments, HasLayouts}
use Rattle.c_layout.proofs.Capping.{IsFair}
use Rattle.c_layout.proofs.Fair.{type_fair, tags_fair}
use Rattle.c_layout.proofs.Grounds.{IsGrounded, tag_layout-complete}

pub next_multiple : GivesNextMultiple
next_multiple place align h = record {
  multiple = mul-mod_left ((place + (align - 1)) / align) align;
  not_before = omega arith;
  first = omega (arith, div-mul-le_self (place + (align - 1)) align);
}

Positive : List Layout → Type 0
Positive ls = All (λ l. 0 < l.align) ls

first_positive : (l : Layout) (ls : List Layout) → All (λ l. 0 < l.align) (l ∷ ls) → 0 < l.align
first_positive l ls h = All-head (λ l. 0 < l.align) l ls h

others_positive : (l : Layout) (ls : List Layout) → All (λ l. 0 < l.align) (l ∷ ls) → All (λ l. 0 < l.align) ls
others_positive l ls h = All-tail (λ l. 0 < l.align) l ls h

after_end : (ls : List Layout) (place : ℕ) → All (λ l. 0 < l.align) ls → place ≤ end_of place ls
after_end [] place h = omega arith
after_end (l ∷ ls) place h =
    let a = next_multiple place l.align (first_positive l ls h) in
    let r = after_end ls (aligned place l.align + l.size) (others_positive l ls h) in
    omega (arith, a.not_before)

pub record Stands (ls : List Layout) (start k : ℕ) (l : Layout) : Type 0 where
  pub multiple : last_place start (take (suc k) ls) % l.align ≡ 0
  pub behind : end_of start (take k ls) ≤ last_place start (take (suc k) ls)
  pub before_end : last_place start (take (suc k) ls) + l.size ≤ end_of start ls

some_same : (x y : Layout) → ◌≡◌ {A = Option Layout} (Some x) (Some y) → x ≡ y
some_same x y e = cc

-- a front that isn't empty goes on as the whole does
last_place-cons : (l : Layout) (ls : List Layout) (start k : ℕ) (m : Layout) → slice_get ls k ≡ Some m →
    last_place start (l ∷ take (suc k) ls) ≡ last_place (aligned start l.align + l.size) (take (suc k) ls)
last_place-cons l [] start k m e = cc
last_place-cons l (x ∷ ls) start k m e = refl

pub stands : (ls : List Layout) (start k : ℕ) (l : Layout) → All (λ l. 0 < l.align) ls → slice_get ls k ≡ Some l → Stands ls start k l
stands [] start k l h e = cc
stands (x ∷ ls) start zero l h e =
    let same = some_same x l e in
    let a = next_multiple start x.align (first_positive x ls h) in
    let r = after_end ls (aligned start x.align + x.size) (others_positive x ls h) in
    subst (λ m. Stands (x ∷ ls) start zero m) same (record { multiple = a.multiple; behind = a.not_before; before_end = r })
stands (x ∷ ls) start (suc k) l h e =
    let r = stands ls (aligned start x.align + x.size) k l (others_positive x ls h) e in
    let p = last_place-cons x ls start k l e in
    record { multiple = rw p r.multiple; behind = rw p r.behind; before_end = rw p r.before_end }

greatest_positive : (ls : List Layout) → 1 ≤ greatest_align ls
greatest_positive [] = omega arith
greatest_positive (l ∷ ls) = omega (arith, greatest_positive ls)

pub places_members : PlacesMembers
places_members ls h k l e =
    let s = stands ls 0 k l h e in
    let r = next_multiple (end_of 0 ls) (greatest_align ls) (greatest_positive ls) in
    record {
      multiple = rw add-one s.multiple;
      behind = rw add-one s.behind;
      within = rw add-one (omega (arith, s.before_end, r.not_before));
    }

small : (o : Option Layout) → IfSome o IsFair → IfSome o (λ l. (1 ≤ l.align) × (l.align ≤ 8))
small None f = tt
small (Some l) f = (f.positive, f.small)

pub small_alignments : HasSmallAlignments
small_alignments tags t = small (layout tags t) (type_fair (tag_layout tags) (tags_fair tags) t)

pub has_layouts : (tags : List TagDef) → IsGrounded tags → HasLayouts tags
has_layouts tags g k d e c = (g k d e c, tag_layout-complete tags g k d e c ∙ rw c refl)
