-- Bytes that are read all at once, as code reads them.
use Rattle.std.specs.Prelude.{ℕ, ◌||◌, Bool, true, false, List, map, Result, Ok, Err, if◌then◌else◌}
use Rattle.std.specs.List.{list_any}
use Rattle.fc_base.specs.declared.undefined.UndefKind.{UndefKind}
use Rattle.fc_base.specs.declared.undefined.UndefKind.TheVariants as kind
use Rattle.library_meaning.specs.Table.{order_of}
use Rattle.object_meaning.specs.Cells.{is_uninit}
use Rattle.object_meaning.specs.declared.values.Cell.{Cell}
use Rattle.object_meaning.specs.declared.values.Cell.TheVariants.{Byte, Uninit, Part}
use Rattle.src_lib.specs.Texts.{byte_in}

abbrev pub is_part : Cell → Bool
is_part (Byte b) = false
is_part Uninit = false
is_part (Part p k) = true

-- the order of two lists of cells: an uninitialised cell anywhere comes before a part of a pointer anywhere
abbrev pub ordered : List Cell → List Cell → Result ℕ UndefKind
ordered xs ys =
    if list_any is_uninit xs || list_any is_uninit ys then Err kind.Uninitialised
    else (if list_any is_part xs || list_any is_part ys then Err kind.PointerBytes
    else Ok (order_of (map byte_in xs) (map byte_in ys)))
