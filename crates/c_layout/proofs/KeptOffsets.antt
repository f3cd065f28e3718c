-- Where the members of a complete structure or union stand stays as it is while other tags are added or completed.
use Rattle.std.proofs.Common.{◌≡◌, ℕ, zero, suc, ◌+◌, ◌≤◌, List, [], ◌∷◌, length, take, Bool, true, false, cond, Option, None, Some, IfSome, refl, sym, ap, subst, ◌∙◌, add-one, arith}
use Rattle.std.specs.Prelude.{slice_get, option_and_then, is_some}
use Rattle.std.specs.Option.{option_map}
use Rattle.std.proofs.lemmas.Bool.{le-ltb, lt-ltb}
use Rattle.c_layout.specs.declared.tags.Member.{Member}
use Rattle.c_layout.specs.declared.tags.TagDef.{TagDef}
use Rattle.c_layout.specs.declared.sizes.Placed.{Placed}
use Rattle.c_layout.specs.declared.types.Layout.{Layout}
use Rattle.c_layout.specs.Capped.{capped, capped_size, offset_in, offsets_behind, offsets_of, placed, placed_behind, with_member}
use Rattle.c_layout.specs.Entries.{AreOffsets}
use Rattle.c_layout.specs.Layouts.{aggregate, definition_layout, last_place, member_layouts, member_offset, offset_among, tag_layout, within_limit}
use Rattle.c_layout.proofs.Capping.{AreFair, some, placed_behind-cons}
use Rattle.c_layout.proofs.Fair.{members_fair, tags_fair}
use Rattle.c_layout.proofs.Grounds.{IsGrounded, Keeps, given, members_keep, tag_layout-complete}
use Rattle.c_layout.proofs.Offsets.{fair_front, fair_list, first_of, up_to, within_members}

-- ---- what is kept of each member

first_place : (u : Bool) (p : Placed) (l : Layout) → offset_in u (with_member p (capped l)) ≡ offset_in u (placed_behind p (l ∷ []))
first_place true p l = refl
first_place false p l = refl

offsets_at : (u : Bool) (p : Placed) (ls : List Layout) (k : ℕ) → AreFair ls →
    slice_get (offsets_behind u p ls) k ≡ option_map (λ (x : Layout). offset_in u (placed_behind p (take (suc k) ls))) (slice_get ls k)
offsets_at u p [] k h = refl
offsets_at u p (l ∷ ls) zero h = ap Some (first_place u p l)
offsets_at u p (l ∷ ls) (suc k) (some f fs) =
    rw (placed_behind-cons p l (take (suc k) ls) (fair_front ls (suc k) fs)) (offsets_at u (with_member p (capped l)) ls k fs)

cut_place : (n : ℕ) → within_limit (capped_size n) ≡ within_limit n
cut_place n = grind arith

cut_offset : (u : Bool) (ls : List Layout) → within_limit (offset_in u (placed ls)) ≡ within_limit (offset_among u ls)
cut_offset true ls = refl
cut_offset false [] = refl
cut_offset false (l ∷ ls) = cut_place (last_place 0 (l ∷ ls))

-- where a member of these stands
abbrev place_of : Bool → List Layout → ℕ → Option ℕ
place_of u ls k = option_and_then (λ (x : Layout). within_limit (offset_among u (take (suc k) ls))) (slice_get ls k)

cut_places : (u : Bool) (ls : List Layout) (k : ℕ) (o : Option Layout) →
    option_and_then within_limit (option_map (λ (x : Layout). offset_in u (placed (take (suc k) ls))) o) ≡
    option_and_then (λ (x : Layout). within_limit (offset_among u (take (suc k) ls))) o
cut_places u ls k None = refl
cut_places u ls k (Some x) = cut_offset u (take (suc k) ls)

kept_places : (u : Bool) (ls : List Layout) (k : ℕ) → AreFair ls →
    option_and_then within_limit (slice_get (offsets_of u ls) k) ≡ place_of u ls k
kept_places u ls k h = rw (offsets_at u _ ls k h) (cut_places u ls k (slice_get ls k))

-- ---- what is defined

beyond : (f : ℕ → Option Layout) (ms : List Member) (ls : List Layout) (k : ℕ) → member_layouts f ms ≡ Some ls → slice_get ls k ≡ None → length ms ≤ k
beyond f [] ls k e h = omega arith
beyond f (m ∷ ms) ls zero e h =
    let r = first_of _ _ ls e in
    absurd (let at : slice_get (r.0 ∷ r.1) 0 ≡ None = subst (λ z. slice_get z 0 ≡ None) (sym r.4) h in cc)
beyond f (m ∷ ms) ls (suc k) e h =
    let r = first_of _ _ ls e in
    let low = beyond f ms r.1 k r.3 (subst (λ z. slice_get z (suc k) ≡ None) (sym r.4) h) in
    omega (arith, low)

place_by : (tags : List TagDef) (def : TagDef) (ls : List Layout) (k : ℕ) → member_layouts (tag_layout tags) def.members ≡ Some ls →
    (o : Option Layout) → slice_get ls k ≡ o →
    member_offset tags k def ≡ option_and_then (λ (x : Layout). within_limit (offset_among def.is_union (take (suc k) ls))) o
place_by tags def ls k e None at = rw (le-ltb k (length def.members) (beyond (tag_layout tags) def.members ls k e at)) refl
place_by tags def ls k e (Some x) at =
    let up : member_layouts (tag_layout tags) (take (k + 1) def.members) ≡ Some (take (suc k) ls) =
    rw (add-one k) (up_to (tag_layout tags) def.members ls k x e at) in
    rw (lt-ltb k (length def.members) (within_members (tag_layout tags) def.members ls k x e at), up) refl

place_is : (tags : List TagDef) (def : TagDef) (ls : List Layout) (k : ℕ) → member_layouts (tag_layout tags) def.members ≡ Some ls →
    member_offset tags k def ≡ place_of def.is_union ls k
place_is tags def ls k e = place_by tags def ls k e (slice_get ls k) refl

-- ---- what is kept is what is defined

mapped : (u : Bool) (o : Option (List Layout)) (os : List ℕ) → option_map (offsets_of u) o ≡ Some os →
    (ls : List Layout) × (o ≡ Some ls) × (offsets_of u ls ≡ os)
mapped u None os e = cc
mapped u (Some ls) os e = (ls, refl, cc)

are_offsets : (tags : List TagDef) (def : TagDef) (os : List ℕ) → def.complete ≡ true →
    option_map (offsets_of def.is_union) (member_layouts (tag_layout tags) def.members) ≡ Some os → AreOffsets tags def os
are_offsets tags def os c e =
    let m = mapped def.is_union (member_layouts (tag_layout tags) def.members) os e in
    let fair = fair_list _ m.0 (members_fair (tag_layout tags) (tags_fair tags) def.members) m.1 in
    record {
      complete = c;
      each = λ k. subst (λ xs. option_and_then within_limit (slice_get xs k) ≡ member_offset tags k def) m.2
          (kept_places def.is_union m.0 k fair ∙ sym (place_is tags def m.0 k m.1));
    }

-- ---- while other tags change

unmapped : (u : Bool) (o : Option (List Layout)) → is_some (option_map (aggregate u) o) ≡ true → is_some o ≡ true
unmapped u None e = cc
unmapped u (Some ls) e = refl

-- the members of a complete tag have sizes
pub has_members : (tags : List TagDef) → IsGrounded tags → (k : ℕ) (d : TagDef) → slice_get tags k ≡ Some d → d.complete ≡ true →
    is_some (member_layouts (tag_layout tags) d.members) ≡ true
has_members tags h k d e c =
    let laid : is_some (definition_layout (tag_layout tags) d) ≡ true =
    subst (λ o. is_some o ≡ true) (tag_layout-complete tags h k d e c) (h k d e c) in
    unmapped d.is_union _ (subst (λ b. is_some (cond b (option_map (aggregate d.is_union) (member_layouts (tag_layout tags) d.members)) None) ≡ true) c laid)

module _ (xs ys : List TagDef) (keeps : Keeps (tag_layout xs) (tag_layout ys)) (d : TagDef)
    (sizes : is_some (member_layouts (tag_layout xs) d.members) ≡ true) where
  same_place : (k : ℕ) → member_offset xs k d ≡ member_offset ys k d
  same_place k =
      let g = given _ sizes in
      place_is xs d g.0 k g.1 ∙ sym (place_is ys d g.0 k (members_keep (tag_layout xs) (tag_layout ys) keeps d.members g.0 g.1))

  offsets_stay : (os : List ℕ) → AreOffsets xs d os → AreOffsets ys d os
  offsets_stay os a = record { complete = a.complete; each = λ k. a.each k ∙ same_place k }

if_carried : {A : Type 0} (P Q : A → Type 0) (o : Option A) → ((x : A) → P x → Q x) → IfSome o P → IfSome o Q
if_carried P Q None h p = p
if_carried P Q (Some x) h p = h x p

pub kept_offsets_stay : (xs ys : List TagDef) → Keeps (tag_layout xs) (tag_layout ys) → (d : TagDef) →
    (d.complete ≡ true → is_some (member_layouts (tag_layout xs) d.members) ≡ true) → (o : Option (List ℕ)) →
    IfSome o (AreOffsets xs d) → IfSome o (AreOffsets ys d)
kept_offsets_stay xs ys keeps d sizes o p =
    if_carried (AreOffsets xs d) (AreOffsets ys d) o (λ os a. offsets_stay xs ys keeps d (sizes a.complete) os a) p

pub are_kept : (tags : List TagDef) (def : TagDef) → def.complete ≡ true → (o : Option (List ℕ)) →
    IfSome o (λ os. option_map (offsets_of def.is_union) (member_layouts (tag_layout tags) def.members) ≡ Some os) →
    IfSome o (AreOffsets tags def)
are_kept tags def c None p = p
are_kept tags def c (Some os) p = are_offsets tags def os c p
