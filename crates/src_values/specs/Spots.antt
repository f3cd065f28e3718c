-- Where an operation's bytes lie, or why it is undefined, as code reads the tests.
use Rattle.std.specs.Prelude.{ℕ, Bool, not, ◌&&◌, ◌||◌, List, Result, Ok, Err, if◌then◌else◌, nat_abs}
use Rattle.fc_base.specs.declared.undefined.UndefKind.{UndefKind}
use Rattle.fc_base.specs.declared.undefined.UndefKind.TheVariants as kind
use Rattle.object_meaning.specs.Objects.{Object, object_at, is_live, size_at}
use Rattle.object_meaning.specs.Touches.{is_dead, lies_in}
use Rattle.object_meaning.specs.Memory.{has_other_size}
use Rattle.object_meaning.specs.Provenance.{attributed}
use Rattle.object_meaning.specs.declared.values.Ptr.{Ptr}
use Rattle.object_meaning.specs.declared.values.PtrValue.{PtrValue}
use Rattle.object_meaning.specs.declared.values.PtrValue.TheVariants.{Null, At}
use Rattle.src_values.specs.declared.copies.Spot.{Spot}

-- bytes that are read or written behind a pointer, one at least
abbrev pub spot_for : List Object → Bool → PtrValue → ℕ → Result Spot UndefKind
spot_for objs written (Null claim) count = Err kind.NullPointer
spot_for objs written (At p) count =
    if is_live objs p.object
    then (if lies_in (size_at objs p.object) p.offset count
    then (if written && not (object_at objs p.object).writable then Err kind.ReadOnly
    else Ok (record { object = p.object; start = nat_abs p.offset }))
    else Err kind.OutOfObject)
    else Err kind.DeadObject

-- cells that are copied from one place to another, one at least
abbrev pub spots_between : List Object → ℕ → PtrValue → PtrValue → Result (Spot × Spot) UndefKind
spots_between objs count (Null claim) from = Err kind.NullPointer
spots_between objs count (At p) (Null claim) = Err kind.NullPointer
spots_between objs count (At p) (At q) =
    if lies_in (size_at objs p.object) p.offset count && lies_in (size_at objs q.object) q.offset count
    then (if (object_at objs p.object).writable
    then Ok (record { object = p.object; start = nat_abs p.offset }, record { object = q.object; start = nat_abs q.offset })
    else Err kind.ReadOnly)
    else Err kind.OutOfObject

abbrev pub spots_for : List Object → PtrValue → PtrValue → ℕ → Result (Spot × Spot) UndefKind
spots_for objs to from count = if is_dead objs to || is_dead objs from then Err kind.DeadObject else spots_between objs count to from

-- the place behind which a member or an array is taken, so many bytes of which must lie in its object
abbrev pub base_for : List Object → PtrValue → ℕ → Result Ptr UndefKind
base_for objs (Null claim) within = Err kind.NullPointer
base_for objs (At p) within =
    if is_live objs p.object
    then (if lies_in (size_at objs p.object) p.offset within then Ok p else Err kind.OutOfObject)
    else Err kind.DeadObject

-- a place in a live object whose bytes an attribute claims to be so many
abbrev pub attributed_place : List Object → ℕ → Ptr → Result PtrValue UndefKind
attributed_place objs size p = if has_other_size objs size (At p) then Err kind.FalseAttribute else Ok (attributed objs size (At p))
