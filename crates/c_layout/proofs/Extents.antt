-- The steps of the code that gives layouts, with sizes that stop at one past the limit.
use Rattle.std.proofs.Common.{◌≡◌, ℕ, ◌+◌, ◌-◌, ◌<◌, ◌≤◌, Bool, true, List, [], ◌∷◌, ◌++◌, length, get_or, take, drop, refl, sym, ap, Option, None, Some, IfSome, add-one, append_assoc, drop-cons, length-drop, arith}
use Rattle.std.proofs.lemmas.List.{take_all}
use Rattle.std.specs.Prelude.{option_and_then}
use Rattle.std.specs.Option.{option_map}
use Rattle.c_layout.specs.declared.types.Layout.{Layout}
use Rattle.c_layout.specs.declared.tags.Member.{Member}
use Rattle.c_layout.specs.declared.tags.TagDef.{TagDef}
use Rattle.c_layout.specs.declared.sizes.Placed.{Placed}
use Rattle.c_layout.specs.Layouts.{repeated, member_layout, member_layouts, aggregate, definition_layout}
use Rattle.c_layout.specs.Capped.{IsCut, capped, placed, placed_behind, with_member, offset_in, offsets_behind, aggregate_of}
use Rattle.c_layout.proofs.Capping.{IsFair, AreFair, repeated-capped, placed_behind-cons, greatest_fair, aggregate_cut}
use Rattle.c_layout.proofs.Fair.{AllFair, member_fair, members_fair}

pub repeated_extent : (n : ℕ) (o : Option Layout) (element : Layout) → option_map capped o ≡ Some element →
    Some (capped (repeated n element)) ≡ option_map capped (option_map (repeated n) o)
repeated_extent n None element e = cc
repeated_extent n (Some l) element e =
    let same : element ≡ capped l = cc in
    let r = repeated-capped n l in cc

placed_next : (p : Placed) (o : Option Layout) (ls : Option (List Layout)) (q : Placed) → IfSome ls AreFair →
    Some q ≡ option_map (λ l. with_member p (capped l)) o →
    option_map (placed_behind p) (option_and_then (λ x. option_map (λ xs. x ∷ xs) ls) o) ≡ option_map (placed_behind q) ls
placed_next p None ls q f e = cc
placed_next p (Some x) None q f e = refl
placed_next p (Some x) (Some ls) q f e =
    let same : q ≡ with_member p (capped x) = cc in
    let r = placed_behind-cons p x ls f in cc

-- a member placed before the others
pub placed_one : (f : ℕ → Option Layout) → AllFair f → (p : Placed) (m : Member) (ms : List Member) (q : Placed) →
    Some q ≡ option_map (λ l. with_member p (capped l)) (member_layout f m ms) →
    option_map (placed_behind p) (member_layouts f (m ∷ ms)) ≡ option_map (placed_behind q) (member_layouts f ms)
placed_one f h p m ms q e = placed_next p (member_layout f m ms) (member_layouts f ms) q (members_fair f h ms) e

offsets_next : (u : Bool) (p : Placed) (os : List ℕ) (o : Option Layout) (ls : Option (List Layout)) (q : Placed) →
    Some q ≡ option_map (λ l. with_member p (capped l)) o →
    option_map (λ more. os ++ more) (option_map (offsets_behind u p) (option_and_then (λ x. option_map (λ xs. x ∷ xs) ls) o)) ≡
    option_map (λ more. (os ++ offset_in u q ∷ []) ++ more) (option_map (offsets_behind u q) ls)
offsets_next u p os None ls q e = cc
offsets_next u p os (Some x) None q e = refl
offsets_next u p os (Some x) (Some ls) q e =
    let same : q ≡ with_member p (capped x) = cc in
    rw same (ap Some (sym (append_assoc os (offset_in u (with_member p (capped x)) ∷ []) (offsets_behind u (with_member p (capped x)) ls))))

-- where a member stands, before the others
pub offsets_one : (f : ℕ → Option Layout) (u : Bool) (p : Placed) (os : List ℕ) (m : Member) (ms : List Member) (q : Placed) →
    Some q ≡ option_map (λ l. with_member p (capped l)) (member_layout f m ms) →
    option_map (λ more. os ++ more) (option_map (offsets_behind u p) (member_layouts f (m ∷ ms))) ≡
    option_map (λ more. (os ++ offset_in u q ∷ []) ++ more) (option_map (offsets_behind u q) (member_layouts f ms))
offsets_one f u p os m ms q e = offsets_next u p os (member_layout f m ms) (member_layouts f ms) q e

-- a list from one of its elements on
pub from_here : {A : Type 0} (xs : List A) (i : ℕ) (x : A) → i < length xs → x ≡ get_or xs i x → drop i xs ≡ x ∷ drop (i + 1) xs
from_here xs i x inside found = rw (add-one, drop-cons xs i x) (cc)

pub whole_rest : {A : Type 0} (xs : List A) (i : ℕ) → i < length xs → take (length xs - (i + 1)) (drop (i + 1) xs) ≡ drop (i + 1) xs
whole_rest xs i inside = take_all (length xs - (i + 1)) (drop (i + 1) xs) (rw length-drop (omega arith))

-- placing one member
pub placed_with : (p : Placed) (o : Option Layout) (l : Layout) → option_map capped o ≡ Some l →
    Some (with_member p l) ≡ option_map (λ x. with_member p (capped x)) o
placed_with p None l e = cc
placed_with p (Some x) l e = let same : l ≡ capped x = cc in ap (λ y. Some (with_member p y)) same

pub not_placed_with : (p : Placed) (o : Option Layout) → option_map capped o ≡ None → None ≡ option_map (λ x. with_member p (capped x)) o
not_placed_with p None e = refl
not_placed_with p (Some x) e = cc

placed_not : (p : Placed) (o : Option Layout) (ls : Option (List Layout)) → option_map capped o ≡ None →
    option_map (placed_behind p) (option_and_then (λ x. option_map (λ xs. x ∷ xs) ls) o) ≡ None
placed_not p None ls e = refl
placed_not p (Some x) ls e = cc

-- a member without a size
pub placed_none : (f : ℕ → Option Layout) (p : Placed) (m : Member) (ms : List Member) →
    option_map capped (member_layout f m ms) ≡ None → option_map (placed_behind p) (member_layouts f (m ∷ ms)) ≡ None
placed_none f p m ms e = placed_not p (member_layout f m ms) (member_layouts f ms) e

some_same : (x y : Layout) → ◌≡◌ {A = Option Layout} (Some x) (Some y) → x ≡ y
some_same x y e = cc

capped_fair : (o : Option Layout) (l : Layout) → IfSome o IsFair → option_map capped o ≡ Some l → IsFair l
capped_fair None l f e = cc
capped_fair (Some x) l f e =
    let same : x.align ≡ l.align = ap (λ (y : Layout). y.align) (some_same (capped x) l e) in
    record { positive = rw (← same) f.positive; small = rw (← same) f.small }

pub extent_fair : (f : ℕ → Option Layout) → AllFair f → (m : Member) (ms : List Member) (l : Layout) →
    option_map capped (member_layout f m ms) ≡ Some l → IsFair l
extent_fair f h m ms l e = capped_fair (member_layout f m ms) l (member_fair f h m ms) e

pub with_cut : (p : Placed) (l : Layout) → IsFair l → IsCut p → IsCut (with_member p l)
with_cut p l f c = record {
  last = grind arith;
  end = grind arith;
  size = grind arith;
  positive = grind (arith, c.positive);
  small = grind (arith, f.small, c.small);
}

same_placed : (p q : Placed) → ◌≡◌ {A = Option Placed} (Some p) (Some q) → p ≡ q
same_placed p q e = cc

placed_align : (o : Option (List Layout)) (p : Placed) → IfSome o AreFair → option_map placed o ≡ Some p → (1 ≤ p.align) × (p.align ≤ 8)
placed_align None p f e = cc
placed_align (Some ls) p f e =
    let same : (placed ls).align ≡ p.align = ap (λ (q : Placed). q.align) (same_placed (placed ls) p e) in
    let h = greatest_fair f in
    (rw (← same) (grind arith), rw (← same) (grind (arith, h.1)))

-- the alignment of placed members
pub members_align : (f : ℕ → Option Layout) → AllFair f → (ms : List Member) (p : Placed) → option_map placed (member_layouts f ms) ≡ Some p →
    (1 ≤ p.align) × (p.align ≤ 8)
members_align f h ms p e = placed_align (member_layouts f ms) p (members_fair f h ms) e

placed_whole : (u : Bool) (o : Option (List Layout)) (p : Placed) → IfSome o AreFair → option_map placed o ≡ Some p →
    Some (capped (aggregate_of u p)) ≡ option_map capped (option_map (aggregate u) o)
placed_whole u None p f e = cc
placed_whole u (Some ls) p f e =
    let same : placed ls ≡ p = same_placed (placed ls) p e in
    let cut = aggregate_cut u ls f in
    cc

pub defined_extent : (f : ℕ → Option Layout) → AllFair f → (d : TagDef) (p : Placed) → d.complete ≡ true →
    option_map placed (member_layouts f d.members) ≡ Some p → Some (capped (aggregate_of d.is_union p)) ≡ option_map capped (definition_layout f d)
defined_extent f h d p c e = rw c (placed_whole d.is_union (member_layouts f d.members) p (members_fair f h d.members) e)

not_placed : (u : Bool) (o : Option (List Layout)) → option_map placed o ≡ None → None ≡ option_map capped (option_map (aggregate u) o)
not_placed u None e = refl
not_placed u (Some ls) e = cc

pub undefined_extent : (f : ℕ → Option Layout) (d : TagDef) → d.complete ≡ true →
    option_map placed (member_layouts f d.members) ≡ None → None ≡ option_map capped (definition_layout f d)
undefined_extent f d c e = rw c (not_placed d.is_union (member_layouts f d.members) e)
