-- Complete tags keep their layouts while others are added or completed.
use Rattle.std.proofs.Common.{◌≡◌, ◌≢◌, ℕ, zero, suc, ◌+◌, ◌≤◌, List, [], ◌∷◌, Bool, true, false, cond, Option, None, Some, refl, sym, ◌∙◌, ap, subst, inl, inr, arith}
use Rattle.std.specs.Prelude.{slice_get, option_and_then, is_some}
use Rattle.std.specs.Option.{option_map}
use Rattle.std.proofs.lemmas.Bool.Decides.{eqb_tells}
use Rattle.c_layout.specs.declared.types.CType.{CType, out-CType}
use Rattle.c_layout.specs.declared.types.CType.TheOpen.{CType-F}
use Rattle.c_layout.specs.declared.types.Layout.{Layout}
use Rattle.c_layout.specs.declared.tags.Member.{Member}
use Rattle.c_layout.specs.declared.tags.TagDef.{TagDef}
use Rattle.c_layout.specs.Layouts.{repeated, flexible, type_layout, last_of, member_layout, member_layouts, aggregate, definition_layout, tag_layout_within, tag_layout, complete_count, HaveSizes}
use Rattle.c_layout.proofs.Related.{types_related}

-- what the one gives, the other gives
abbrev pub Goes : {A : Type 0} → Option A → Option A → Type 0
Goes {A} a b = (x : A) → a ≡ Some x → b ≡ Some x

abbrev pub Keeps : (ℕ → Option Layout) → (ℕ → Option Layout) → Type 0
Keeps f g = (k : ℕ) → Goes (f k) (g k)

goes_map : {A B : Type 0} (h : A → B) (a b : Option A) → Goes a b → Goes (option_map h a) (option_map h b)
goes_map h None b r y e = cc
goes_map h (Some x) b r y e = rw (r x refl) e

goes_then : {A B : Type 0} (h j : A → Option B) (a b : Option A) → Goes a b → ((x : A) → Goes (h x) (j x)) →
    Goes (option_and_then h a) (option_and_then j b)
goes_then h j None b r s y e = cc
goes_then h j (Some x) b r s y e = rw (r x refl) (s x y e)

module _ (f g : ℕ → Option Layout) (keeps : Keeps f g) where
  type_keeps : (t : CType) → Goes (type_layout f t) (type_layout g t)
  type_keeps = types_related Goes f g (λ x e. e) (λ n low high x e. e) (λ n a b r. goes_map (repeated n) a b r) keeps

  last_of_keeps : (t : CType) (y : CType-F CType) → Goes (last_of f t y) (last_of g t y)
  last_of_keeps t (CType-F.OpenArray of) = goes_map flexible _ _ (type_keeps of)
  last_of_keeps t _ = type_keeps t

  member_keeps : (m : Member) (ms : List Member) → Goes (member_layout f m ms) (member_layout g m ms)
  member_keeps m [] = last_of_keeps m.ctype (out-CType m.ctype)
  member_keeps m (n ∷ ms) = type_keeps m.ctype

  pub members_keep : (ms : List Member) → Goes (member_layouts f ms) (member_layouts g ms)
  members_keep [] = λ x e. e
  members_keep (m ∷ ms) = goes_then _ _ _ _ (member_keeps m ms) (λ l. goes_map (λ ls. l ∷ ls) _ _ (members_keep ms))

  conditional_keeps : (c : Bool) (u : Bool) (ms : List Member) →
      Goes (cond c (option_map (aggregate u) (member_layouts f ms)) None) (cond c (option_map (aggregate u) (member_layouts g ms)) None)
  conditional_keeps true u ms = goes_map (aggregate u) _ _ (members_keep ms)
  conditional_keeps false u ms = λ x e. e

  pub definition_keeps : (d : TagDef) → Goes (definition_layout f d) (definition_layout g d)
  definition_keeps d = conditional_keeps d.complete d.is_union d.members

-- the complete tags of the one list stand in the other
abbrev pub Extends : List TagDef → List TagDef → Type 0
Extends xs ys = (k : ℕ) (d : TagDef) → slice_get xs k ≡ Some d → d.complete ≡ true → slice_get ys k ≡ Some d

conditional_none : {A : Type 0} (c : Bool) (o : Option A) (x : A) → cond c o None ≡ Some x → c ≡ true
conditional_none true o x e = refl
conditional_none false o x e = cc

pub is_complete : (f : ℕ → Option Layout) (d : TagDef) (l : Layout) → definition_layout f d ≡ Some l → d.complete ≡ true
is_complete f d l e = conditional_none d.complete _ l e

got_keeps : (f g : ℕ → Option Layout) → Keeps f g → (o p : Option TagDef) → ((d : TagDef) → o ≡ Some d → d.complete ≡ true → p ≡ Some d) →
    Goes (option_and_then (definition_layout f) o) (option_and_then (definition_layout g) p)
got_keeps f g h None p s x e = cc
got_keeps f g h (Some d) p s x e = rw (s d refl (is_complete f d x e)) (definition_keeps f g h d x e)

within_keeps : (n m : ℕ) (xs ys : List TagDef) → n ≤ m → Extends xs ys → Keeps (tag_layout_within n xs) (tag_layout_within m ys)
within_keeps zero m xs ys le ext k x e = cc
within_keeps (suc n) zero xs ys le ext k x e = absurd (omega arith)
within_keeps (suc n) (suc m) xs ys le ext k x e =
    got_keeps _ _ (within_keeps n m xs ys (omega arith) ext) (slice_get xs k) (slice_get ys k) (ext k) x e

pub tags_keep : (xs ys : List TagDef) → complete_count xs ≤ complete_count ys → Extends xs ys → Keeps (tag_layout xs) (tag_layout ys)
tags_keep xs ys le ext = within_keeps (complete_count xs) (complete_count ys) xs ys le ext

-- each complete tag has a layout
abbrev pub IsGrounded : List TagDef → Type 0
IsGrounded tags = (k : ℕ) (d : TagDef) → slice_get tags k ≡ Some d → d.complete ≡ true → is_some (tag_layout tags k) ≡ true

pub given : {A : Type 0} (o : Option A) → is_some o ≡ true → (x : A) × (o ≡ Some x)
given None e = cc
given (Some x) e = (x, refl)

none_within : (n : ℕ) (tags : List TagDef) (k : ℕ) → slice_get tags k ≡ None → tag_layout_within n tags k ≡ None
none_within zero tags k e = refl
none_within (suc n) tags k e = rw e refl

incomplete_within : (n : ℕ) (tags : List TagDef) (k : ℕ) (d : TagDef) → slice_get tags k ≡ Some d → d.complete ≡ false → tag_layout_within n tags k ≡ None
incomplete_within zero tags k d e c = refl
incomplete_within (suc n) tags k d e c = rw (e, c) refl

-- a layout is that of the definition
pub unfolded : (n : ℕ) (tags : List TagDef) (k : ℕ) (d : TagDef) (l : Layout) → slice_get tags k ≡ Some d →
    tag_layout_within n tags k ≡ Some l → definition_layout (tag_layout_within n tags) d ≡ Some l
unfolded zero tags k d l e h = cc
unfolded (suc n) tags k d l e h =
    let here : definition_layout (tag_layout_within n tags) d ≡ Some l = subst (λ o. option_and_then (definition_layout (tag_layout_within n tags)) o ≡ Some l) e h in
    definition_keeps _ _ (within_keeps n (suc n) tags tags (omega arith) (λ k d e c. e)) d l here

-- the layout of a complete tag is that of its members
pub tag_layout-complete : (tags : List TagDef) → IsGrounded tags → (k : ℕ) (d : TagDef) → slice_get tags k ≡ Some d → d.complete ≡ true →
    tag_layout tags k ≡ definition_layout (tag_layout tags) d
tag_layout-complete tags h k d e c =
    let g = given (tag_layout tags k) (h k d e c) in
    let u = unfolded (complete_count tags) tags k d g.0 e g.1 in
    g.1 ∙ sym u

some_same : {A : Type 0} {x y : A} → ◌≡◌ {A = Option A} (Some x) (Some y) → x ≡ y
some_same e = cc

-- A tag that wasn't complete gets a definition; the others stay.
module _ (xs ys : List TagDef) (t : ℕ) (d : TagDef) (at : slice_get ys t ≡ Some d)
    (others : (k : ℕ) → k ≢ t → slice_get ys k ≡ slice_get xs k)
    (unset : (old : TagDef) → slice_get xs t ≡ Some old → old.complete ≡ false)
    (count : complete_count ys ≡ complete_count xs + cond d.complete 1 0)
    (grounded : IsGrounded xs) (sizes : HaveSizes xs d) where
  pub extends : Extends xs ys
  extends k old e c = elim (eqb_tells k t) [
    | inl p ↦ let f = unset old (subst (λ n. slice_get xs n ≡ Some old) p.1 e) in cc
    | inr p ↦ others k p.1 ∙ e
  ]

  pub keeps : Keeps (tag_layout xs) (tag_layout ys)
  keeps = tags_keep xs ys (omega (arith, count)) extends

  same_by : (k : ℕ) → k ≢ t → (o : Option TagDef) → slice_get xs k ≡ o → ((old : TagDef) → o ≡ Some old → (c : Bool) → old.complete ≡ c → tag_layout ys k ≡ tag_layout xs k) →
      tag_layout ys k ≡ tag_layout xs k
  same_by k h None e by = none_within _ ys k (others k h ∙ e) ∙ sym (none_within _ xs k e)
  same_by k h (Some old) e by = by old refl old.complete refl

  same_with : (k : ℕ) → k ≢ t → (old : TagDef) → slice_get xs k ≡ Some old → (c : Bool) → old.complete ≡ c → tag_layout ys k ≡ tag_layout xs k
  same_with k h old e false c = incomplete_within _ ys k old (others k h ∙ e) c ∙ sym (incomplete_within _ xs k old e c)
  same_with k h old e true c = let g = given (tag_layout xs k) (grounded k old e c) in keeps k g.0 g.1 ∙ sym g.1

  pub same_layout : (k : ℕ) → k ≢ t → tag_layout ys k ≡ tag_layout xs k
  same_layout k h = same_by k h (slice_get xs k) refl (λ old e c f. same_with k h old e c f)

  some_map : {A B : Type 0} (h : A → B) (o : Option A) → is_some o ≡ true → is_some (option_map h o) ≡ true
  some_map h None e = cc
  some_map h (Some x) e = refl

  pub has_layout : d.complete ≡ true → is_some (definition_layout (tag_layout xs) d) ≡ true
  has_layout c = rw c (some_map (aggregate d.is_union) _ (sizes c))

  counted : d.complete ≡ true → complete_count ys ≡ suc (complete_count xs)
  counted c = let e : ◌≡◌ {A = ℕ} (cond d.complete 1 0) 1 = rw c refl in omega (arith, count, e)

  now_complete : d.complete ≡ true → tag_layout ys t ≡ definition_layout (tag_layout xs) d
  now_complete c =
      let g = given _ (has_layout c) in
      let kept : Keeps (tag_layout xs) (tag_layout_within (complete_count xs) ys) = within_keeps (complete_count xs) (complete_count xs) xs ys (omega arith) extends in
      let new = definition_keeps _ _ kept d g.0 g.1 in
      rw (counted c, at) (new ∙ sym g.1)

  now_by : (c : Bool) → d.complete ≡ c → tag_layout ys t ≡ definition_layout (tag_layout xs) d
  now_by true c = now_complete c
  now_by false c = incomplete_within _ ys t d at c ∙ rw c refl

  pub new_layout : tag_layout ys t ≡ definition_layout (tag_layout xs) d
  new_layout = now_by d.complete refl

  pub now_grounded : IsGrounded ys
  now_grounded k old e c = elim (eqb_tells k t) [
    | inl p ↦ let same : old ≡ d = some_same (sym e ∙ ap (slice_get ys) p.1 ∙ at) in
        rw p.1 (rw new_layout (has_layout (subst (λ z. z.complete ≡ true) same c)))
    | inr p ↦ rw (same_layout k p.1) (grounded k old (sym (others k p.1) ∙ e) c)
  ]
