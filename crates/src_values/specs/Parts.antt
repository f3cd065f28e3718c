-- The pointer of eight cells, as code reads it: by the first of them.
use Rattle.std.specs.Prelude.{List, Result, Ok, Err, if◌then◌else◌}
use Rattle.std.specs.List.{list_all}
use Rattle.fc_base.specs.declared.undefined.UndefKind.{UndefKind}
use Rattle.fc_base.specs.declared.undefined.UndefKind.TheVariants as kind
use Rattle.object_meaning.specs.Cells.{are_parts, is_zero}
use Rattle.object_meaning.specs.Provenance.{null, forgot}
use Rattle.object_meaning.specs.declared.values.Cell.{Cell}
use Rattle.object_meaning.specs.declared.values.Cell.TheVariants.{Byte, Uninit, Part}
use Rattle.object_meaning.specs.declared.values.PtrValue.{PtrValue}
use Rattle.object_meaning.specs.declared.values.PtrValue.TheVariants.{At}

abbrev pub pointer_by : Cell → List Cell → Result PtrValue UndefKind
pointer_by (Part p k) cells = if are_parts p 0 cells then Ok (forgot (At p)) else Err kind.PointerBytes
pointer_by (Byte b) cells = if list_all is_zero cells then Ok null else Err kind.PointerBytes
pointer_by Uninit cells = Err kind.PointerBytes
