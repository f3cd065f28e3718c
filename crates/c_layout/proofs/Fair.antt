-- Each alignment is from 1 to 8.
use Rattle.std.proofs.Common.{◌≡◌, ℕ, zero, suc, List, [], ◌∷◌, refl, Bool, true, false, Option, None, Some, IfSome}
use Rattle.std.specs.Prelude.{slice_get, option_and_then}
use Rattle.std.specs.Option.{option_map}
use Rattle.c_layout.specs.declared.types.CType.{CType, out-CType}
use Rattle.c_layout.specs.declared.types.CType.TheOpen.{CType-F}
use Rattle.c_layout.specs.declared.types.Layout.{Layout}
use Rattle.c_layout.specs.declared.tags.Member.{Member}
use Rattle.c_layout.specs.declared.tags.TagDef.{TagDef}
use Rattle.c_layout.specs.Layouts.{repeated, flexible, type_layout, last_of, member_layout, member_layouts, aggregate, definition_layout, tag_layout_within, tag_layout, complete_count}
use Rattle.c_layout.proofs.Related.{types_related}
use Rattle.c_layout.proofs.Capping.{IsFair, AreFair, none, some, greatest_fair}

abbrev pub AllFair : (ℕ → Option Layout) → Type 0
AllFair f = (k : ℕ) → IfSome (f k) IsFair

map_fair : (h : Layout → Layout) (o : Option Layout) → ((l : Layout) → IsFair l → IsFair (h l)) → IfSome o IsFair → IfSome (option_map h o) IsFair
map_fair h None k f = f
map_fair h (Some l) k f = k l f

flexible_fair : (l : Layout) → IsFair l → IsFair (flexible l)
flexible_fair l f = record { positive = f.positive; small = f.small }

repeated_fair : (n : ℕ) (l : Layout) → IsFair l → IsFair (repeated n l)
repeated_fair n l f = record { positive = f.positive; small = f.small }

pub type_fair : (f : ℕ → Option Layout) → AllFair f → (t : CType) → IfSome (type_layout f t) IsFair
type_fair f h t = types_related (λ a b. IfSome a IsFair) f f tt (λ n low high. record { positive = low; small = high })
    (λ n a b r. map_fair (repeated n) a (repeated_fair n) r) h t

last_of_fair : (f : ℕ → Option Layout) → AllFair f → (t : CType) (y : CType-F CType) → IfSome (last_of f t y) IsFair
last_of_fair f h t (CType-F.OpenArray of) = map_fair flexible _ flexible_fair (type_fair f h of)
last_of_fair f h t _ = type_fair f h t

pub member_fair : (f : ℕ → Option Layout) → AllFair f → (m : Member) (ms : List Member) → IfSome (member_layout f m ms) IsFair
member_fair f h m [] = last_of_fair f h m.ctype (out-CType m.ctype)
member_fair f h m (n ∷ ms) = type_fair f h m.ctype

both_fair : (o : Option Layout) (p : Option (List Layout)) → IfSome o IsFair → IfSome p AreFair →
    IfSome (option_and_then (λ l. option_map (λ ls. l ∷ ls) p) o) AreFair
both_fair None p a b = a
both_fair (Some l) None a b = b
both_fair (Some l) (Some ls) a b = some a b

pub members_fair : (f : ℕ → Option Layout) → AllFair f → (ms : List Member) → IfSome (member_layouts f ms) AreFair
members_fair f h [] = none
members_fair f h (m ∷ ms) = both_fair _ _ (member_fair f h m ms) (members_fair f h ms)

aggregate_fair : (u : Bool) (ls : List Layout) → AreFair ls → IsFair (aggregate u ls)
aggregate_fair false ls f = let h = greatest_fair f in record { positive = h.0; small = h.1 }
aggregate_fair true ls f = let h = greatest_fair f in record { positive = h.0; small = h.1 }

aggregates_fair : (u : Bool) (o : Option (List Layout)) → IfSome o AreFair → IfSome (option_map (aggregate u) o) IsFair
aggregates_fair u None f = f
aggregates_fair u (Some ls) f = aggregate_fair u ls f

definition_fair : (f : ℕ → Option Layout) → AllFair f → (n : TagDef) (c : Bool) → c ≡ n.complete → IfSome (definition_layout f n) IsFair
definition_fair f h d true e = rw (← e) (aggregates_fair d.is_union _ (members_fair f h d.members))
definition_fair f h d false e = rw (← e) tt

got_fair : (f : ℕ → Option Layout) → AllFair f → (o : Option TagDef) → IfSome (option_and_then (definition_layout f) o) IsFair
got_fair f h None = tt
got_fair f h (Some d) = definition_fair f h d d.complete refl

within_fair : (n : ℕ) (tags : List TagDef) → AllFair (tag_layout_within n tags)
within_fair zero tags k = tt
within_fair (suc n) tags k = got_fair (tag_layout_within n tags) (within_fair n tags) (slice_get tags k)

pub tags_fair : (tags : List TagDef) → AllFair (tag_layout tags)
tags_fair tags = within_fair (complete_count tags) tags
