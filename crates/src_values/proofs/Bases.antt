-- Places behind which a member or an array is taken.
use Rattle.std.proofs.Common.{◌≡◌, ℕ, Bool, true, false, not, List, [], ◌∷◌, Result, Ok, Err, refl, ap, ◌∙◌, arith}
use Rattle.std.specs.Prelude.{if◌then◌else◌, pos, ◌+ℤ◌}
use Rattle.std.proofs.lemmas.Int.{ints}
use Rattle.fc_base.specs.declared.undefined.UndefKind.{UndefKind}
use Rattle.fc_base.specs.declared.undefined.UndefKind.TheVariants as kind
use Rattle.library_meaning.specs.Scan.{and_then}
use Rattle.object_meaning.specs.Memory.{place_tests}
use Rattle.object_meaning.specs.Objects.{Object, is_live, size_at}
use Rattle.object_meaning.specs.Provenance.{at_place}
use Rattle.object_meaning.specs.Touches.{test, tested, lies_in}
use Rattle.object_meaning.specs.declared.values.Ptr.{Ptr}
use Rattle.object_meaning.specs.declared.values.PtrValue.{PtrValue}
use Rattle.object_meaning.specs.declared.values.PtrValue.TheVariants.{Null, At}
use Rattle.src_values.specs.Spots.{base_for}

in_order : {X : Type 0} (live within : Bool) (p : Ptr) (r : Result X UndefKind)
    → tested (test (not live) kind.DeadObject ∷ test false kind.NullPointer ∷ test (not within) kind.OutOfObject ∷ []) r
    ≡ and_then (if live then (if within then Ok p else Err kind.OutOfObject) else Err kind.DeadObject) (λ q. r)
in_order false within p r = refl
in_order true false p r = refl
in_order true true p r = refl

-- the tests of a member or an array, as its base is found
placed_by : (objs : List Object) (v : PtrValue) (within : ℕ) (rule : Ptr → Ptr)
    → tested (place_tests objs v within) (Ok (at_place rule v)) ≡ and_then (base_for objs v within) (λ p. Ok (At (rule p)))
placed_by objs (Null claim) within rule = refl
placed_by objs (At p) within rule =
    let none : p.offset +ℤ pos 0 ≡ p.offset = omega (arith, ints) in
    rw none (in_order (is_live objs p.object) (lies_in (size_at objs p.object) p.offset within) p (Ok (At (rule p))))
    ∙ same (is_live objs p.object) (lies_in (size_at objs p.object) p.offset within)
  where
    same : (live within : Bool) → and_then (if live then (if within then Ok p else Err kind.OutOfObject) else Err kind.DeadObject)
        (λ q. Ok (At (rule p)))
        ≡ and_then (if live then (if within then Ok p else Err kind.OutOfObject) else Err kind.DeadObject) (λ q. Ok (At (rule q)))
    same false within = refl
    same true false = refl
    same true true = refl

pub placed : (objs : List Object) (v : PtrValue) (within : ℕ) (rule : Ptr → Ptr) (r : Result Ptr UndefKind) → base_for objs v within ≡ r
    → tested (place_tests objs v within) (Ok (at_place rule v)) ≡ and_then r (λ p. Ok (At (rule p)))
placed objs v within rule r e = placed_by objs v within rule ∙ ap (λ x. and_then x (λ p. Ok (At (rule p)))) e
