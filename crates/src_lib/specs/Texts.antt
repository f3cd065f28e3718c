-- What a scan behind a pointer has found, as code hands it on.
use Rattle.std.specs.Prelude.{◌≢◌, ℕ, ◌+◌, ◌==◌, ◌≤◌, ◌^◌, Bool, ◌||◌, eqb, List, length, map, take, None, Some, Result, Ok, Err, if◌then◌else◌}
use Rattle.fc_base.specs.declared.undefined.UndefKind.{UndefKind}
use Rattle.fc_base.specs.declared.undefined.UndefKind.TheVariants as kind
use Rattle.library_meaning.specs.Scan.{Found, at_limit, scan}
use Rattle.object_meaning.specs.Cells.{byte_at}
use Rattle.object_meaning.specs.Objects.{Object}
use Rattle.object_meaning.specs.OnObjects.{behind_pointer, forgotten, scan_tests}
use Rattle.object_meaning.specs.Provenance.{null}
use Rattle.object_meaning.specs.Touches.{tested, cells_from}
use Rattle.object_meaning.specs.declared.values.Cell.{Cell}
use Rattle.object_meaning.specs.declared.values.Cell.TheVariants.{Byte, Uninit, Part}
use Rattle.object_meaning.specs.declared.values.PtrValue.{PtrValue}
use Rattle.object_meaning.specs.declared.values.Value.{Value}
use Rattle.object_meaning.specs.declared.values.Value.TheVariants.{Pointer}
use Rattle.src_lib.specs.Reaches.{IsBehind}
use Rattle.src_lib.specs.declared.texts.Text.{Text}

-- the byte of a cell that is one
abbrev pub byte_in : Cell → ℕ
byte_in (Byte b) = b
byte_in Uninit = 0
byte_in (Part p k) = 0

-- a NUL, or a byte that is looked for
abbrev pub ends_at : ℕ → ℕ → Bool
ends_at wanted byte = eqb byte 0 || eqb byte wanted

-- the cells from a place on, up to such a byte, at most so many
abbrev pub scanned : ℕ → ℕ → List Cell → Result Found UndefKind
scanned wanted limit cells = scan byte_at kind.OutOfObject (ends_at wanted) limit cells

abbrev pub found : List Cell → Text → Found
found cells t = record { before = map byte_in (take t.len cells); stop = t.stop }

abbrev pub found_of : List Cell → Result Text UndefKind → Result Found UndefKind
found_of cells (Ok t) = Ok (found cells t)
found_of cells (Err k) = Err k

-- the scan of a row behind a pointer
abbrev pub text_behind : List Object → PtrValue → (ℕ → Bool) → ℕ → Result Found UndefKind
text_behind objs v stops limit =
    if limit == 0 then Ok at_limit
    else tested (scan_tests objs v) (scan byte_at kind.OutOfObject stops limit (cells_from objs v 0))

-- how many cells were read of it
abbrev pub cells_of : Text → ℕ
cells_of t = elim t.stop [ None ↦ t.len | Some byte ↦ t.len + 1 ]

-- the value of a search: the place behind a pointer where it came to the byte, or null
abbrev pub place_value : PtrValue → Text → ℕ → Value
place_value v t wanted = elim t.stop [ None ↦ Pointer null | Some byte ↦ (if eqb byte wanted then forgotten (behind_pointer v t.len) else Pointer null) ]

-- how much was read of it
pub record IsShort (objs : List Object) (v : PtrValue) (limit : ℕ) (t : Text) : Type 0 where
  pub within : t.len ≤ limit
  pub small : t.len ≤ 2 ^ 32
  pub inside : t.len ≤ length (cells_from objs v 0)
  pub behind : limit ≢ 0 → IsBehind v t.len
