-- Cells behind a pointer that are all there.
use Rattle.std.specs.Prelude.{◌≡◌, ℕ, false, List}
use Rattle.object_meaning.specs.Objects.{Object}
use Rattle.object_meaning.specs.Provenance.{IsPointer}
use Rattle.object_meaning.specs.Touches.{is_dead, is_out}
use Rattle.object_meaning.specs.declared.values.PtrValue.{PtrValue}

-- so many from so far behind it on lie in its object, which lives
pub record IsRoom (objs : List Object) (v : PtrValue) (offset count : ℕ) : Type 0 where
  pub pointer : IsPointer objs v
  pub live : is_dead objs v ≡ false
  pub within : is_out objs offset count v ≡ false
