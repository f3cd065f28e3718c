-- What a pointer tells of its place.
use Rattle.std.proofs.Common.{◌≡◌, ℕ, false, List, subst, sym}
use Rattle.std.proofs.lemmas.Bool.{not-false}
use Rattle.object_meaning.specs.Objects.{Object, size_at}
use Rattle.object_meaning.specs.Provenance.{IsValid, IsPointer}
use Rattle.object_meaning.specs.Touches.{is_dead}
use Rattle.object_meaning.specs.declared.values.Ptr.{Ptr}
use Rattle.object_meaning.specs.declared.values.PtrValue.{PtrValue}
use Rattle.object_meaning.specs.declared.values.PtrValue.TheVariants.{At}

pub valid_at : (objs : List Object) (v : PtrValue) (p : Ptr) → IsPointer objs v → is_dead objs v ≡ false → v ≡ At p
    → IsValid (size_at objs p.object) p
valid_at objs v p h l e = (subst (IsPointer objs) e h).valid (not-false _ (subst (λ x. is_dead objs x ≡ false) e l))

-- by a size that was read
pub valid_by : (objs : List Object) (v : PtrValue) (p : Ptr) (size : ℕ) → IsPointer objs v → is_dead objs v ≡ false → v ≡ At p
    → size ≡ size_at objs p.object → IsValid size p
valid_by objs v p size h l e s = subst (λ n. IsValid n p) (sym s) (valid_at objs v p h l e)
