-- The pointers that calls give.
use Rattle.std.proofs.Common.{◌≡◌, ℕ, List, refl, ap, ◌∙◌, arith}
use Rattle.std.specs.Prelude.{ℤ, pos, ◌+ℤ◌, ◌-ℤ◌}
use Rattle.std.proofs.lemmas.Int.{ints}
use Rattle.library_meaning.specs.Properties.{IsForgotten}
use Rattle.library_meaning.specs.Rows.{Given, Count, Behind, Forgot, Nowhere}
use Rattle.object_meaning.specs.OnObjects.{operand, behind, behind_pointer, forgotten, value_of}
use Rattle.object_meaning.specs.Provenance.{moved_tag}
use Rattle.object_meaning.specs.declared.values.PtrValue.{PtrValue}
use Rattle.object_meaning.specs.declared.values.PtrValue.TheVariants.{Null, At}
use Rattle.object_meaning.specs.declared.values.Tag.{Tag}
use Rattle.object_meaning.specs.declared.values.Tag.TheVariants.{Known, Bound, Unknown}
use Rattle.object_meaning.specs.declared.values.Value.{Value}
use Rattle.object_meaning.specs.declared.values.Value.TheVariants as value

no_more : (z : ℤ) → z +ℤ pos 0 ≡ z
no_more z = omega (arith, ints)

no_less : (t : Tag) → moved_tag (pos 0) t ≡ t
no_less Known = refl
no_less (Bound r) = let e : r -ℤ pos 0 ≡ r = omega (arith, ints) in ap Bound e
no_less Unknown = refl

behind_none : (v : PtrValue) → behind_pointer v 0 ≡ value.Pointer v
behind_none (Null claim) = refl
behind_none (At p) = rw (no_more p.offset, no_less p.tag) refl

pub same_is : (args : List Value) (i : ℕ) (v : PtrValue) → operand args i ≡ value.Pointer v → value_of args (Behind i 0) ≡ value.Pointer v
same_is args i v e = ap (λ x. behind x 0) e ∙ behind_none v

forgotten_twice : (x : Value) → forgotten (forgotten x) ≡ forgotten x
forgotten_twice (value.Int n) = refl
forgotten_twice (value.Pointer (Null claim)) = refl
forgotten_twice (value.Pointer (At p)) = refl
forgotten_twice value.Uninit = refl
forgotten_twice value.Nothing = refl

pub forgot_is : (args : List Value) (given : Given) → IsForgotten given → forgotten (value_of args given) ≡ value_of args given
forgot_is args (Count n) h = absurd h
forgot_is args (Behind i k) h = absurd h
forgot_is args (Forgot i k) h = forgotten_twice (behind (operand args i) k)
forgot_is args Nowhere h = refl
