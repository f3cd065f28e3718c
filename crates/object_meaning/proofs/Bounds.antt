-- A computed size bounds the true one.
use Rattle.std.proofs.Common.{◌≡◌, ℕ, ◌≤◌, ◌^◌, Bool, true, false, List, None, Some, refl, arith}
use Rattle.std.specs.Prelude.{ℤ, pos, negsuc, ◌-ℤ◌, ◌≤ℤ◌, if◌then◌else◌}
use Rattle.std.proofs.lemmas.Int.{ints}
use Rattle.fc_base.specs.declared.levels.Mode.{Mode}
use Rattle.fc_base.specs.declared.levels.Mode.TheVariants.{M0, M1, M2, M3}
use Rattle.fc_base.specs.declared.refusals.Place.{Place}
use Rattle.run_meaning.specs.Events.{Asked, Brackets}
use Rattle.object_meaning.specs.Objects.{Object, is_live, size_at}
use Rattle.object_meaning.specs.Provenance.{IsPointer, BoundHolds}
use Rattle.object_meaning.specs.Sizes.{at_least_none, rest_of, size_of, true_size, is_resolved, tagged_size}
use Rattle.object_meaning.specs.declared.values.Ptr.{Ptr}
use Rattle.object_meaning.specs.declared.values.PtrValue.{PtrValue}
use Rattle.object_meaning.specs.declared.values.PtrValue.TheVariants.{Null, At}
use Rattle.object_meaning.specs.declared.values.Tag.{Tag}
use Rattle.object_meaning.specs.declared.values.Tag.TheVariants.{Known, Bound, Unknown}

-- a smaller number is no more without its sign
at_least_smaller : (a b : ℤ) → a ≤ℤ b → at_least_none a ≤ at_least_none b
at_least_smaller (pos a) (pos b) h = omega (arith, ints, h)
at_least_smaller (pos a) (negsuc b) h = absurd (omega (arith, ints, h))
at_least_smaller (negsuc a) b h = omega arith

-- no size passes the greatest number
few : (size : ℕ) (z : ℤ) → size ≤ 2 ^ 32 → z ≤ℤ pos size → at_least_none z ≤ 18446744073709551615
few size (pos a) s h = omega (arith, ints, h)
few size (negsuc a) s h = omega arith

pub bracketed : (size : ℕ) (p : Ptr) (tag : Tag) (place : Place) (mode : Mode) (written : Bool) → size ≤ 2 ^ 32
    → pos 0 ≤ℤ p.offset → p.end ≤ℤ pos size → BoundHolds p.offset p.end tag
    → Brackets (Asked place mode (tagged_size mode size p tag) (Some (rest_of mode size p)) (is_resolved (At (record p { tag = tag }))) written)
bracketed size p Known place M0 written s o e b = (omega arith, λ h. refl)
bracketed size p Known place M1 written s o e b = (omega arith, λ h. refl)
bracketed size p Known place M2 written s o e b = (omega arith, λ h. refl)
bracketed size p Known place M3 written s o e b = (omega arith, λ h. refl)
bracketed size p (Bound r) place M0 written s o e b = (few size (pos size -ℤ p.offset) s (omega (arith, ints, o)), λ h. absurd (cc))
bracketed size p (Bound r) place M1 written s o e b = (at_least_smaller (p.end -ℤ p.offset) r b.0, λ h. absurd (cc))
bracketed size p (Bound r) place M2 written s o e b = (omega arith, λ h. absurd (cc))
bracketed size p (Bound r) place M3 written s o e b = (omega arith, λ h. absurd (cc))
bracketed size p Unknown place M0 written s o e b = (few size (pos size -ℤ p.offset) s (omega (arith, ints, o)), λ h. absurd (cc))
bracketed size p Unknown place M1 written s o e b = (few size (p.end -ℤ p.offset) s (omega (arith, ints, o, e)), λ h. absurd (cc))
bracketed size p Unknown place M2 written s o e b = (omega arith, λ h. absurd (cc))
bracketed size p Unknown place M3 written s o e b = (omega arith, λ h. absurd (cc))

pub brackets : (objs : List Object) (v : PtrValue) → IsPointer objs v → (place : Place) (mode : Mode) (written : Bool)
    → Brackets (Asked place mode (size_of objs mode v) (true_size objs mode v) (is_resolved v) written)
brackets objs (Null claim) h place mode written = tt
brackets objs (At p) h place mode written = go (is_live objs p.object) refl
  where
    go : (t : Bool) → is_live objs p.object ≡ t → Brackets (Asked place mode (size_of objs mode (At p)) (if t then Some (rest_of mode (size_at objs p.object) p) else None) (is_resolved (At p)) written)
    go false e = tt
    go true e =
        let valid = h.valid e in
        bracketed (size_at objs p.object) p p.tag place mode written valid.small valid.starts.0 valid.ends.1 valid.bound
