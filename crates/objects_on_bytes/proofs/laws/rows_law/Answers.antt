use Rattle.library_meaning.specs.OnBytes.{on_bytes}
use Rattle.object_meaning.specs.OnObjects.{on_objects}
use Rattle.objects_on_bytes.proofs.Overflows.{on_objects_acts, on_bytes_acts}
use Rattle.objects_on_bytes.proofs.RowLaws.{row_laws}
use Rattle.objects_on_bytes.proofs.laws.rows_law.Goals as goal

pub returns : goal.returns
returns c = record {
  on_objects = λ args. row_laws _ _ (on_objects args) (on_objects_acts args);
  on_bytes = λ args. row_laws _ _ (on_bytes args) (on_bytes_acts args);
}
