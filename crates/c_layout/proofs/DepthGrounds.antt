-- Complete tags keep their depths while others are added or completed.
use Rattle.std.proofs.Common.{◌≡◌, ◌≢◌, ℕ, zero, suc, ◌+◌, ◌≤◌, max, List, [], ◌∷◌, Bool, true, false, cond, Option, None, Some, refl, sym, ◌∙◌, ap, subst, arith}
use Rattle.std.specs.Prelude.{slice_get, option_and_then, is_some}
use Rattle.std.specs.Option.{option_map, option_map_or}
use Rattle.c_layout.specs.declared.types.CType.{CType, ind-CType, out-CType, roll-CType}
use Rattle.c_layout.specs.declared.types.CType.TheOpen.{CType-F}
use Rattle.c_layout.specs.declared.types.CType.TheFolds.{fold-roll-CType, fold_out-CType, map-CType}
use Rattle.c_layout.specs.declared.types.Layout.{Layout}
use Rattle.c_layout.specs.declared.tags.Member.{Member}
use Rattle.c_layout.specs.declared.tags.TagDef.{TagDef}
use Rattle.c_layout.specs.declared.depths.Depth.{Depth}
use Rattle.c_layout.specs.Depths.{depth_layer, type_depths, type_depth, greatest_depth, definition_depth, tag_depth_within, tag_depth}
use Rattle.c_layout.specs.Layouts.{repeated, flexible, layer_layout, type_layout, last_of, member_layout, member_layouts, aggregate, definition_layout, tag_layout_within, tag_layout, complete_count}
use Rattle.c_layout.proofs.Grounds.{Extends, IsGrounded, given, is_complete}

mapped : {A B : Type 0} (h : A → B) (o : Option A) (y : B) → option_map h o ≡ Some y → (x : A) × (o ≡ Some x)
mapped h None y e = cc
mapped h (Some x) y e = (x, refl)

followed : {A B : Type 0} (h : A → Option B) (o : Option A) (y : B) → option_and_then h o ≡ Some y →
    (x : A) × ((o ≡ Some x) × (h x ≡ Some y))
followed h None y e = cc
followed h (Some x) y e = (x, (refl, e))

-- the depth of a type by its outermost part
opened : (h : ℕ → ℕ) (t : CType) (y : CType-F CType) → out-CType t ≡ y →
    type_depth h t ≡ (depth_layer h (map-CType CType Depth (type_depths h) y)).plain
opened h t y e = ap (λ d. d.plain) (fold_out-CType Depth (depth_layer h) t)
    ∙ ap (λ y. (depth_layer h (map-CType CType Depth (type_depths h) y)).plain) e

-- depths that are the same behind a pointer, and if there is a layout the same
abbrev Agree : Option Layout → Depth → Depth → Type 0
Agree o a b = (a.behind ≡ b.behind) × ((l : Layout) → o ≡ Some l → a.plain ≡ b.plain)

module _ (f : ℕ → Option Layout) (h g : ℕ → ℕ) (same : (k : ℕ) (l : Layout) → f k ≡ Some l → h k ≡ g k) where
  layers : (E : Type 0) (t : E → CType) → ((e : E) → Agree (type_layout f (t e)) (type_depths h (t e)) (type_depths g (t e))) →
      (y : CType-F E) →
      Agree (layer_layout f (map-CType CType (Option Layout) (type_layout f) (map-CType E CType t y)))
      (depth_layer h (map-CType CType Depth (type_depths h) (map-CType E CType t y)))
      (depth_layer g (map-CType CType Depth (type_depths g) (map-CType E CType t y)))
  layers E t i CType-F.Void = (refl, λ l e. refl)
  layers E t i (CType-F.Int w s c l) = (refl, λ l e. refl)
  layers E t i (CType-F.Ptr of) = (ap suc (i of).0, λ l e. ap suc (i of).0)
  layers E t i (CType-F.Array of n) = (ap suc (i of).0, λ l e. let x = mapped (repeated n) _ l e in ap suc ((i of).1 x.0 x.1))
  layers E t i (CType-F.OpenArray of) = (ap suc (i of).0, λ l e. cc)
  layers E t i (CType-F.Struct k) = (refl, λ l e. same k l e)
  layers E t i (CType-F.Union k) = (refl, λ l e. same k l e)

  types_same : (t : CType) → Agree (type_layout f t) (type_depths h t) (type_depths g t)
  types_same = ind-CType (λ t. Agree (type_layout f t) (type_depths h t) (type_depths g t)) (λ x y is.
      subst (λ z. Agree (type_layout f (roll-CType z)) (type_depths h (roll-CType z)) (type_depths g (roll-CType z))) is
      (rw (fold-roll-CType (Option Layout) (layer_layout f), fold-roll-CType Depth (depth_layer h), fold-roll-CType Depth (depth_layer g))
      (layers _ (λ e. e.0) (λ e. e.1) y)))

  last_same : (t : CType) (y : CType-F CType) → out-CType t ≡ y → (l : Layout) → last_of f t y ≡ Some l → type_depth h t ≡ type_depth g t
  last_same t (CType-F.OpenArray of) e l q =
      let x = mapped flexible _ l q in
      opened h t (CType-F.OpenArray of) e ∙ (ap suc ((types_same of).1 x.0 x.1) ∙ sym (opened g t (CType-F.OpenArray of) e))
  last_same t _ e l q = (types_same t).1 l q

  member_same : (m : Member) (ms : List Member) (l : Layout) → member_layout f m ms ≡ Some l → type_depth h m.ctype ≡ type_depth g m.ctype
  member_same m [] l q = last_same m.ctype (out-CType m.ctype) refl l q
  member_same m (n ∷ ms) l q = (types_same m.ctype).1 l q

  members_same : (ms : List Member) (ls : List Layout) → member_layouts f ms ≡ Some ls → greatest_depth h ms ≡ greatest_depth g ms
  members_same [] ls q = refl
  members_same (m ∷ ms) ls q =
      let first = followed (λ l. option_map (λ ls. l ∷ ls) (member_layouts f ms)) (member_layout f m ms) ls q in
      let rest = mapped (λ ls. first.0 ∷ ls) (member_layouts f ms) ls first.1.1 in
      ap (λ n. max n (greatest_depth h ms)) (member_same m ms first.0 first.1.0)
      ∙ ap (max (type_depth g m.ctype)) (members_same ms rest.0 rest.1)

  conditional_same : (c u : Bool) (ms : List Member) (l : Layout) → cond c (option_map (aggregate u) (member_layouts f ms)) None ≡ Some l →
      cond c (suc (greatest_depth h ms)) 0 ≡ cond c (suc (greatest_depth g ms)) 0
  conditional_same true u ms l q = let x = mapped (aggregate u) (member_layouts f ms) l q in ap suc (members_same ms x.0 x.1)
  conditional_same false u ms l q = refl

  definition_same : (d : TagDef) (l : Layout) → definition_layout f d ≡ Some l → definition_depth h d ≡ definition_depth g d
  definition_same d l q = conditional_same d.complete d.is_union d.members l q

  got_same : (o p : Option TagDef) → ((d : TagDef) → o ≡ Some d → d.complete ≡ true → p ≡ Some d) → (l : Layout) →
      option_and_then (definition_layout f) o ≡ Some l → option_map_or (definition_depth h) p 0 ≡ option_map_or (definition_depth g) o 0
  got_same None p s l q = cc
  got_same (Some d) p s l q = rw (s d refl (is_complete f d l q)) (definition_same d l q)

within_same : (n m : ℕ) (xs ys : List TagDef) → n ≤ m → Extends xs ys → (k : ℕ) (l : Layout) → tag_layout_within n xs k ≡ Some l →
    tag_depth_within m ys k ≡ tag_depth_within n xs k
within_same zero m xs ys le ext k l q = cc
within_same (suc n) zero xs ys le ext k l q = absurd (omega arith)
within_same (suc n) (suc m) xs ys le ext k l q =
    got_same (tag_layout_within n xs) (tag_depth_within m ys) (tag_depth_within n xs) (within_same n m xs ys (omega arith) ext)
    (slice_get xs k) (slice_get ys k) (ext k) l q

none_within : (n : ℕ) (tags : List TagDef) (k : ℕ) → slice_get tags k ≡ None → tag_depth_within n tags k ≡ 0
none_within zero tags k e = refl
none_within (suc n) tags k e = rw e refl

incomplete_within : (n : ℕ) (tags : List TagDef) (k : ℕ) (d : TagDef) → slice_get tags k ≡ Some d → d.complete ≡ false →
    tag_depth_within n tags k ≡ 0
incomplete_within zero tags k d e c = refl
incomplete_within (suc n) tags k d e c = rw (e, c) refl

-- A tag that wasn't complete gets a definition; the others stay.
module _ (xs ys : List TagDef) (t : ℕ) (d : TagDef) (at : slice_get ys t ≡ Some d)
    (others : (k : ℕ) → k ≢ t → slice_get ys k ≡ slice_get xs k)
    (extends : Extends xs ys)
    (count : complete_count ys ≡ complete_count xs + cond d.complete 1 0)
    (grounded : IsGrounded xs) (sized : d.complete ≡ true → is_some (definition_layout (tag_layout xs) d) ≡ true) where
  same_with : (k : ℕ) → k ≢ t → (old : TagDef) → slice_get xs k ≡ Some old → (c : Bool) → old.complete ≡ c → tag_depth ys k ≡ tag_depth xs k
  same_with k i old e false c = incomplete_within _ ys k old (others k i ∙ e) c ∙ sym (incomplete_within _ xs k old e c)
  same_with k i old e true c =
      let l = given (tag_layout xs k) (grounded k old e c) in
      within_same (complete_count xs) (complete_count ys) xs ys (omega (arith, count)) extends k l.0 l.1

  same_by : (k : ℕ) → k ≢ t → (o : Option TagDef) → slice_get xs k ≡ o → tag_depth ys k ≡ tag_depth xs k
  same_by k i None e = none_within _ ys k (others k i ∙ e) ∙ sym (none_within _ xs k e)
  same_by k i (Some old) e = same_with k i old e old.complete refl

  pub same_depth : (k : ℕ) → k ≢ t → tag_depth ys k ≡ tag_depth xs k
  same_depth k i = same_by k i (slice_get xs k) refl

  counted : d.complete ≡ true → complete_count ys ≡ suc (complete_count xs)
  counted c = let e : ◌≡◌ {A = ℕ} (cond d.complete 1 0) 1 = rw c refl in omega (arith, count, e)

  now_by : (c : Bool) → d.complete ≡ c → tag_depth ys t ≡ definition_depth (tag_depth xs) d
  now_by true c =
      let l = given (definition_layout (tag_layout xs) d) (sized c) in
      let new = definition_same (tag_layout xs) (tag_depth_within (complete_count xs) ys) (tag_depth xs)
      (within_same (complete_count xs) (complete_count xs) xs ys (omega arith) extends) d l.0 l.1 in
      rw (counted c, at) new
  now_by false c = incomplete_within _ ys t d at c ∙ rw c refl

  pub new_depth : tag_depth ys t ≡ definition_depth (tag_depth xs) d
  new_depth = now_by d.complete refl
