-- Two texts that are compared, as code compares them.
use Rattle.std.specs.Prelude.{not, Bool, ◌&&◌, ◌||◌, List, [], ◌∷◌, Result, Ok, Err, eqb}
use Rattle.fc_base.specs.declared.undefined.UndefKind.{UndefKind}
use Rattle.fc_base.specs.declared.undefined.UndefKind.TheVariants as kind
use Rattle.library_meaning.specs.Scan as scans
use Rattle.library_meaning.specs.Scan.{and_then, scan_both}
use Rattle.object_meaning.specs.Cells.{byte_at}
use Rattle.object_meaning.specs.Objects.{Object}
use Rattle.object_meaning.specs.Touches.{test, tested, is_dead, is_null, cells_from}
use Rattle.object_meaning.specs.declared.values.Cell.{Cell}
use Rattle.object_meaning.specs.declared.values.PtrValue.{PtrValue}
use Rattle.src_lib.specs.declared.pairs.Pair.{Pair}

-- as the rows have them
abbrev pub pairs_of : Result Pair UndefKind → Result scans.Pair UndefKind
pairs_of (Ok p) = Ok (record { left = p.left; right = p.right })
pairs_of (Err k) = Err k

abbrev pub pair_at : Cell → Cell → Result Pair UndefKind
pair_at x y = and_then (byte_at x) (λ a. and_then (byte_at y) (λ b. Ok (record { left = a; right = b })))

abbrev pub goes_on : Pair → Bool
goes_on p = eqb p.left p.right && not (eqb p.left 0)

-- the comparison of a row behind two pointers
abbrev pub both_behind : List Object → PtrValue → PtrValue → Result scans.Pair UndefKind
both_behind objs v w =
    tested (test (is_dead objs v || is_dead objs w) kind.DeadObject ∷ test (is_null v || is_null w) kind.NullPointer ∷ [])
    (scan_both byte_at kind.OutOfObject (cells_from objs v 0) (cells_from objs w 0))
