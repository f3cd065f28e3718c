-- Numbers in cells, as code reads and writes them: from the lowest byte on.
use Rattle.std.specs.Prelude.{◌≡◌, ℕ, zero, suc, ◌+◌, ◌*◌, List, [], ◌∷◌, Result, Ok, Err}
use Rattle.fc_base.specs.declared.undefined.UndefKind.{UndefKind}
use Rattle.fc_base.specs.declared.undefined.UndefKind.TheVariants as kind
use Rattle.object_meaning.specs.Objects.{Object}
use Rattle.object_meaning.specs.declared.values.Cell.{Cell}
use Rattle.object_meaning.specs.declared.values.Cell.TheVariants.{Byte, Uninit, Part}

-- one more cell below a number
abbrev pub digit_then : Cell → Result ℕ UndefKind → Result ℕ UndefKind
digit_then (Byte b) (Ok n) = Ok (b + 256 * n)
digit_then (Byte b) (Err e) = Err e
digit_then Uninit rest = Err kind.Uninitialised
digit_then (Part p k) (Ok n) = Err kind.PointerBytes
digit_then (Part p k) (Err e) = Err e

abbrev pub number_in : List Cell → Result ℕ UndefKind
number_in [] = Ok 0
number_in (c ∷ cs) = digit_then c (number_in cs)

-- how many numbers n bytes hold
abbrev pub values_of : ℕ → ℕ
values_of zero = 1
values_of (suc n) = 256 * values_of n

-- a call that changes memory as an operation does, or leaves it as it was
abbrev pub Changes : Result (List Object) UndefKind → List Object → List Object → Result (Unit {0}) UndefKind → Type 0
Changes (Ok objs) old new (Ok done) = new ≡ objs
Changes (Ok objs) old new (Err e) = ⊥
Changes (Err k) old new result = (result ≡ Err k) × (new ≡ old)
