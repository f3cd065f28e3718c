-- What a size that was asked says of the true one.
use Rattle.std.specs.Prelude.{ℕ, Bool, List}
use Rattle.fc_base.specs.declared.levels.Mode.{Mode}
use Rattle.fc_base.specs.declared.refusals.Place.{Place}
use Rattle.run_meaning.specs.Events.{Asked, Brackets}
use Rattle.object_meaning.specs.Objects.{Object}
use Rattle.object_meaning.specs.Sizes.{true_size, is_resolved}
use Rattle.object_meaning.specs.declared.values.PtrValue.{PtrValue}

-- the bracket, wherever the size is asked
abbrev pub BoundsTrueSize : List Object → Mode → PtrValue → ℕ → Type 0
BoundsTrueSize objs mode v size = (place : Place) (written : Bool)
    → Brackets (Asked place mode size (true_size objs mode v) (is_resolved v) written)
