-- Where the members of a structure or union stand.
use Rattle.std.proofs.Common.{◌≡◌, ℕ, zero, suc, ◌+◌, ◌%◌, ◌<◌, ◌≤◌, Bool, true, false, cond, List, [], ◌∷◌, length, take, Option, None, Some, IfSome, All, refl, sym, ap, subst, ◌∙◌, add-one, arith}
use Rattle.std.specs.Prelude.{slice_get, option_and_then}
use Rattle.std.specs.Option.{option_map}
use Rattle.std.proofs.lemmas.Bool.{le-leb, lt-ltb}
use Rattle.std.proofs.lemmas.List.{take-take}
use Rattle.std.proofs.Math.Nat.{zero-mod}
use Rattle.std.proofs.lemmas.List.Elements.{All-nil, All-cons}
use Rattle.c_layout.specs.declared.types.CType.{CType, out-CType}
use Rattle.c_layout.specs.declared.types.CType.TheFolds.{fold_out-CType, map-CType}
use Rattle.c_layout.specs.declared.types.CType.TheOpen.{CType-F}
use Rattle.c_layout.specs.declared.types.Layout.{Layout}
use Rattle.c_layout.specs.declared.tags.Member.{Member}
use Rattle.c_layout.specs.declared.tags.TagDef.{TagDef}
use Rattle.c_layout.specs.Layouts.{largest_type, end_of, last_place, greatest_size, greatest_align, layer_layout, type_layout, last_of, last_layout, member_layout, member_layouts, aggregate, complete_count, tag_layout, offset_among, within_limit, offset}
use Rattle.c_layout.specs.Laws.{PlacesOffsets}
use Rattle.c_layout.proofs.Capping.{AreFair, none, some, greatest_fair}
use Rattle.c_layout.proofs.Fair.{members_fair, tags_fair}
use Rattle.c_layout.proofs.Grounds.{unfolded}
use Rattle.c_layout.proofs.Placements.{stands, next_multiple, places_members}

conditional_some : {A : Type 0} (c : Bool) (o : Option A) (x : A) → cond c o None ≡ Some x → o ≡ Some x
conditional_some true o x e = e
conditional_some false o x e = cc

behind : {A B : Type 0} (f : A → B) (o : Option A) (y : B) → option_map f o ≡ Some y → (x : A) × (o ≡ Some x) × (f x ≡ y)
behind f None y e = cc
behind f (Some x) y e = (x, refl, cc)

-- what is first and what follows, where a list of layouts is there
pub first_of : (o : Option Layout) (p : Option (List Layout)) (ls : List Layout) → option_and_then (λ l. option_map (λ ls. l ∷ ls) p) o ≡ Some ls →
    (l : Layout) × (others : List Layout) × (o ≡ Some l) × (p ≡ Some others) × (l ∷ others ≡ ls)
first_of None p ls e = cc
first_of (Some l) None ls e = cc
first_of (Some l) (Some others) ls e = (l, others, refl, refl, cc)

module _ (f : ℕ → Option Layout) where
  -- a type with a size is no open array
  sized_by : (t : CType) (l : Layout) (y : CType-F CType) → type_layout f t ≡ layer_layout f (map-CType CType (Option Layout) (type_layout f) y) →
      type_layout f t ≡ Some l → last_of f t y ≡ Some l
  sized_by t l (CType-F.OpenArray of) e h = cc
  sized_by t l CType-F.Void e h = h
  sized_by t l (CType-F.Int w s c o) e h = h
  sized_by t l (CType-F.Ptr of) e h = h
  sized_by t l (CType-F.Array of n) e h = h
  sized_by t l (CType-F.Struct k) e h = h
  sized_by t l (CType-F.Union k) e h = h

  last_sized : (t : CType) (l : Layout) → type_layout f t ≡ Some l → last_layout f t ≡ Some l
  last_sized t l h = sized_by t l (out-CType t) (fold_out-CType (Option Layout) (layer_layout f) t) h

  ends : (m : Member) (ms : List Member) (l : Layout) → member_layout f m ms ≡ Some l → member_layout f m [] ≡ Some l
  ends m [] l e = e
  ends m (n ∷ ms) l e = last_sized m.ctype l e

  shorter : (m : Member) (ms : List Member) (k : ℕ) (l x : Layout) (ls : List Layout) → member_layouts f ms ≡ Some ls → slice_get ls k ≡ Some x →
      member_layout f m ms ≡ Some l → member_layout f m (take (suc k) ms) ≡ Some l
  shorter m [] k l x ls e at h = h
  shorter m (n ∷ ms) k l x ls e at h = h

  joined : (m : Member) (ms : List Member) (l : Layout) (ls : List Layout) → member_layout f m ms ≡ Some l → member_layouts f ms ≡ Some ls →
      member_layouts f (m ∷ ms) ≡ Some (l ∷ ls)
  joined m ms l ls e h = rw (e, h) refl

  -- the layouts of the members up to one
  pub up_to : (ms : List Member) (ls : List Layout) (k : ℕ) (x : Layout) → member_layouts f ms ≡ Some ls → slice_get ls k ≡ Some x →
      member_layouts f (take (suc k) ms) ≡ Some (take (suc k) ls)
  up_to [] ls k x e at = let none : ls ≡ [] = cc in absurd (let h : slice_get [] k ≡ Some x = subst (λ z. slice_get z k ≡ Some x) none at in cc)
  up_to (m ∷ ms) ls zero x e at =
      let r = first_of _ _ ls e in
      subst (λ z. member_layouts f (m ∷ []) ≡ Some (take 1 z)) r.4 (joined m [] r.0 [] (ends m ms r.0 r.2) refl)
  up_to (m ∷ ms) ls (suc k) x e at =
      let r = first_of _ _ ls e in
      let there : slice_get r.1 k ≡ Some x = subst (λ z. slice_get z (suc k) ≡ Some x) (sym r.4) at in
      subst (λ z. member_layouts f (m ∷ take (suc k) ms) ≡ Some (take (suc (suc k)) z)) r.4
      (joined m (take (suc k) ms) r.0 (take (suc k) r.1) (shorter m ms k r.0 x r.1 r.3 there r.2) (up_to ms r.1 k x r.3 there))

  pub within_members : (ms : List Member) (ls : List Layout) (k : ℕ) (x : Layout) → member_layouts f ms ≡ Some ls → slice_get ls k ≡ Some x → k < length ms
  within_members [] ls k x e at = let none : ls ≡ [] = cc in absurd (let h : slice_get [] k ≡ Some x = subst (λ z. slice_get z k ≡ Some x) none at in cc)
  within_members (m ∷ ms) ls zero x e at = omega arith
  within_members (m ∷ ms) ls (suc k) x e at =
      let r = first_of _ _ ls e in
      let low = within_members ms r.1 k x r.3 (subst (λ z. slice_get z (suc k) ≡ Some x) (sym r.4) at) in
      omega (arith, low)

positive : (ls : List Layout) → AreFair ls → All (λ l. 0 < l.align) ls
positive [] none = All-nil (λ l. 0 < l.align)
positive (l ∷ ls) (some f fs) = All-cons (λ l. 0 < l.align) l ls f.positive (positive ls fs)

greatest_at : (ls : List Layout) (k : ℕ) (m : Layout) → slice_get ls k ≡ Some m → m.size ≤ greatest_size ls
greatest_at [] k m e = cc
greatest_at (l ∷ ls) zero m e = let same : l ≡ m = cc in rw (← same) (omega arith)
greatest_at (l ∷ ls) (suc k) m e = omega (arith, greatest_at ls k m e)

front : (ls : List Layout) (j k : ℕ) (m : Layout) → j < k → slice_get ls j ≡ Some m → slice_get (take k ls) j ≡ Some m
front [] j k m low at = cc
front (l ∷ ls) j zero m low at = absurd (omega arith)
front (l ∷ ls) zero (suc k) m low at = at
front (l ∷ ls) (suc j) (suc k) m low at = front ls j k m (omega arith) at

pub fair_front : (ls : List Layout) (k : ℕ) → AreFair ls → AreFair (take k ls)
fair_front ls zero h = none
fair_front [] (suc k) h = none
fair_front (l ∷ ls) (suc k) (some f fs) = some f (fair_front ls k fs)

-- where a member stands among these
abbrev place_among : Bool → List Layout → ℕ → ℕ
place_among is_union ls k = offset_among is_union (take (k + 1) ls)

record AreInside (is_union : Bool) (ls : List Layout) : Type 0 where
  multiple : (k : ℕ) (m : Layout) → slice_get ls k ≡ Some m → place_among is_union ls k % m.align ≡ 0
  within : (k : ℕ) (m : Layout) → slice_get ls k ≡ Some m → place_among is_union ls k + m.size ≤ (aggregate is_union ls).size
  union : is_union ≡ true → (k : ℕ) → place_among is_union ls k ≡ 0
  apart : is_union ≡ false → (j k : ℕ) (m n : Layout) → j < k → slice_get ls j ≡ Some m → slice_get ls k ≡ Some n →
      place_among is_union ls j + m.size ≤ place_among is_union ls k

before : (ls : List Layout) → AreFair ls → (j k : ℕ) (m n : Layout) → j < k → slice_get ls j ≡ Some m → slice_get ls k ≡ Some n →
    last_place 0 (take (j + 1) ls) + m.size ≤ last_place 0 (take (k + 1) ls)
before ls h j k m n low at next =
    let first = stands (take k ls) 0 j m (positive _ (fair_front ls k h)) (front ls j k m low at) in
    let second = places_members ls (positive ls h) k n next in
    let same : take (suc j) (take k ls) ≡ take (j + 1) ls = take-take (suc j) k ls (omega arith) ∙ ap (λ i. take i ls) (sym (add-one j)) in
    let ends = subst (λ z. last_place 0 z + m.size ≤ end_of 0 (take k ls)) same first.before_end in
    omega (arith, ends, second.behind)

inside : (is_union : Bool) (ls : List Layout) → AreFair ls → AreInside is_union ls
inside false ls h = record {
  multiple = λ k m at. (places_members ls (positive ls h) k m at).multiple;
  within = λ k m at. (places_members ls (positive ls h) k m at).within;
  union = λ e. cc;
  apart = λ e. before ls h;
}
inside true ls h = record {
  multiple = λ k m at. zero-mod m.align;
  within = λ k m at. omega (arith, greatest_at ls k m at, (next_multiple (greatest_size ls) (greatest_align ls) (greatest_fair h).0).not_before);
  union = λ e k. refl;
  apart = λ e. cc;
}

limited : (n : ℕ) → n ≤ largest_type → within_limit n ≡ Some n
limited n low = rw (le-leb n largest_type low) refl

-- the offset of a member within the limit
offset_is : (tags : List TagDef) (tag : ℕ) (def : TagDef) (ls : List Layout) → slice_get tags tag ≡ Some def →
    member_layouts (tag_layout tags) def.members ≡ Some ls → (k : ℕ) (m : Layout) → slice_get ls k ≡ Some m →
    place_among def.is_union ls k ≤ largest_type → offset tags tag k ≡ Some (place_among def.is_union ls k)
offset_is tags tag def ls there e k m at low =
    let up : member_layouts (tag_layout tags) (take (k + 1) def.members) ≡ Some (take (k + 1) ls) = rw (add-one k) (up_to (tag_layout tags) def.members ls k m e at) in
    rw (there, lt-ltb k (length def.members) (within_members (tag_layout tags) def.members ls k m e at), up) (limited (place_among def.is_union ls k) low)

pub fair_list : (o : Option (List Layout)) (ls : List Layout) → IfSome o AreFair → o ≡ Some ls → AreFair ls
fair_list o ls h e = subst (λ p. IfSome p AreFair) e h

pub places_offsets : PlacesOffsets
places_offsets tags tag def whole there laid low =
    let f = tag_layout tags in
    let of_members : option_map (aggregate def.is_union) (member_layouts f def.members) ≡ Some whole =
    conditional_some def.complete _ whole (unfolded (complete_count tags) tags tag def whole there laid) in
    let b = behind (aggregate def.is_union) (member_layouts f def.members) whole of_members in
    let i = inside def.is_union b.0 (fair_list _ b.0 (members_fair f (tags_fair tags) def.members) b.1) in
    let within : (k : ℕ) (m : Layout) → slice_get b.0 k ≡ Some m → place_among def.is_union b.0 k + m.size ≤ whole.size =
    λ k m at. subst (λ w. place_among def.is_union b.0 k + m.size ≤ w.size) b.2 (i.within k m at) in
    rw b.1 (record {
      place = place_among def.is_union b.0;
      offsets = λ k m at. offset_is tags tag def b.0 there b.1 k m at (omega (arith, within k m at, low));
      multiple = i.multiple;
      within = within;
      union = i.union;
      apart = i.apart;
    })
